-- Each bit's owner, one process after another.
use Rattle.std.proofs.Common.{◌≡◌, ◌≢◌, ℕ, ◌<◌, ◌≤◌, ◌+◌, inl, inr, ⊎_elim, Bool, true, false, nat_eq, ◌||◌, List, [], ◌∷◌, ◌++◌, length, get_or, take, refl, sym, ap, ◌∙◌, subst, arith, set, Some}
use Rattle.std.specs.Prelude.{Contains, slice_get, All}
use Rattle.std.proofs.lemmas.Bool.{cases_eq, cases_lt, false≢true, eq-eqb}
use Rattle.std.proofs.lemmas.List.{get_or-set_same, get_or-set_other, get_or_past, take_more}
use Rattle.std.proofs.lemmas.List.Elements.{All-contains, All-weaker, All-contains_itself, Contains-push, Contains-append_left, Contains-append_cases}
use Rattle.std.proofs.lemmas.Option.{slice_get_within, same_Some}
use Rattle.bit_exprs.specs.Named.{among}
use Rattle.design_core.specs.declared.flat.Process.{Process}
use Rattle.design_core.specs.Drive.{drives}
use Rattle.design_core.proofs.Truth.{or_cases}
use Rattle.elab_flat.specs.declared.drivers.Owner.{Owner}
use Rattle.elab_flat.specs.declared.drivers.Owner.TheVariants as owner
use Rattle.elab_flat.specs.Driven.{DrivesBit, IsDriven}
use Rattle.elab_flat.specs.Owners.{owner_at, AreFree, Owns, Clashes, AreOwners}
use Rattle.elab_flat.proofs.Driving.{either}

or_first : (a b : Bool) → a ≡ true → a || b ≡ true
or_first true b h = refl
or_first false b h = absurd (false≢true h)

or_second : (a b : Bool) → b ≡ true → a || b ≡ true
or_second true b h = refl
or_second false b h = h

-- ---- the registers' places

module _ (registers : List ℕ) (i : ℕ) (bit : ℕ) (at : bit ≡ get_or registers i bit) (lt : i < length registers) where
  one_more : take (i + 1) registers ≡ take i registers ++ bit ∷ []
  one_more = take_more registers i bit lt ∙ ap (λ x. take i registers ++ x ∷ []) (sym at)

  pub free_more : (owners : List Owner) → bit < length owners → AreFree (take i registers) owners → AreFree (take (i + 1) registers) (set owners bit owner.Nobody)
  free_more owners within f = record {
    free = λ b there. ⊎_elim (λ same. now_free b same)
        (λ other. get_or-set_other owners bit b owner.Nobody owner.Barred other ∙ f.free b (before b other (subst (λ xs. Contains xs b) one_more there)))
        (cases_eq b bit);
    others = λ b. ⊎_elim (λ same. inl (subst (λ xs. Contains xs b) (sym one_more) (subst (λ x. Contains (take i registers ++ bit ∷ []) x) (sym same) (Contains-push (take i registers) bit))))
        (λ other. ⊎_elim (λ there. inl (subst (λ xs. Contains xs b) (sym one_more) (Contains-append_left (take i registers) (bit ∷ []) b there)))
        (λ barred. inr (get_or-set_other owners bit b owner.Nobody owner.Barred other ∙ barred)) (f.others b))
        (cases_eq b bit);
  }
    where
      now_free : (b : ℕ) → b ≡ bit → owner_at (set owners bit owner.Nobody) b ≡ owner.Nobody
      now_free b same = ap (owner_at (set owners bit owner.Nobody)) same ∙ get_or-set_same owners bit owner.Nobody owner.Barred within

      last : (b : ℕ) → b ≢ bit → Contains (bit ∷ []) b → Contains (take i registers) b
      last b other h = let none : h.0 ≡ 0 = omega (arith, h.1) in absurd (other (sym h.2 ∙ ap (λ k. get_or (bit ∷ []) k b) none))

      before : (b : ℕ) → b ≢ bit → Contains (take i registers ++ bit ∷ []) b → Contains (take i registers) b
      before b other h = ⊎_elim (λ there. there) (last b other) (Contains-append_cases (take i registers) (bit ∷ []) b h)

pub free_none : (owners : List Owner) → ((b : ℕ) → owner_at owners b ≡ owner.Barred) → AreFree [] owners
free_none owners barred = record { free = λ b there. absurd (nowhere there); others = λ b. inr (barred b) }
  where
    nowhere : {b : ℕ} → Contains [] b → ⊥
    nowhere h = let none = h.1 in omega arith

-- ---- one bit

is_among : (a b : ℕ) → b ≡ a → among (a ∷ []) b ≡ true
is_among a b same = or_first (nat_eq a b) false (eq-eqb a b (sym same))

nobody_process : (o : Owner) (k : ℕ) → o ≡ owner.Nobody → o ≡ owner.Process k → ⊥
nobody_process o k e f = cc

nobody_barred : (o : Owner) → o ≡ owner.Nobody → o ≡ owner.Barred → ⊥
nobody_barred o e f = cc

process_barred : (o : Owner) (k : ℕ) → o ≡ owner.Process k → o ≡ owner.Barred → ⊥
process_barred o k e f = cc

same_process : (o : Owner) (j k : ℕ) → o ≡ owner.Process j → o ≡ owner.Process k → j ≡ k
same_process o j k e f = cc

module _ (bit process : ℕ) (owners : List Owner) where
  pub barred_clash : owner_at owners bit ≡ owner.Barred → Clashes (among (bit ∷ [])) process owners
  barred_clash barred = (bit, is_among bit bit refl, inl barred)

pub past_clash : (bit process : ℕ) (owners : List Owner) → length owners ≤ bit → Clashes (among (bit ∷ [])) process owners
past_clash bit process owners past = barred_clash bit process owners (get_or_past owners bit owner.Barred past)

-- ---- bits one after another

module _ (process : ℕ) (f g : ℕ → Bool) where
  pub clash_first : (owners : List Owner) → Clashes f process owners → Clashes (either f g) process owners
  clash_first owners c = (c.0, or_first (f c.0) (g c.0) c.1, c.2)

  module _ (old mid : List Owner) (first : Owns f process old mid) where
    pub owns_both : (new : List Owner) → Owns g process mid new → Owns (either f g) process old new
    owns_both new second = record {
      long = second.long ∙ first.long;
      mine = λ b t. ⊎_elim (λ x. second.kept b process (first.mine b x)) (second.mine b) (or_cases (f b) (g b) t);
      kept = λ b k had. second.kept b k (first.kept b k had);
      only = λ b k has. ⊎_elim
          (λ had. ⊎_elim (λ was. inl was) (λ mine. inr (mine.0, or_first (f b) (g b) mine.1)) (first.only b k had))
          (λ mine. inr (mine.0, or_second (f b) (g b) mine.1))
          (second.only b k has);
      barred = λ b was. second.barred b (first.barred b was);
      opened = λ b is. first.opened b (second.opened b is);
    }

    -- an owner that clashes with a later bit was there before
    pub clash_later : Clashes g process mid → Clashes (either f g) process old
    clash_later c = (c.0, or_second (f c.0) (g c.0) c.1, ⊎_elim (λ barred. inl (first.opened c.0 barred)) (λ other. inr (other.0, other.1, was other.0 other.1 other.2)) c.2)
      where
        was : (k : ℕ) → k ≢ process → owner_at mid c.0 ≡ owner.Process k → owner_at old c.0 ≡ owner.Process k
        was k other has = ⊎_elim (λ had. had) (λ mine. absurd (other mine.0)) (first.only c.0 k has)

module _ (process : ℕ) (old mid : List Owner) (first : (f : ℕ → Bool) × Owns f process old mid) where
  pub one_more_owned : (g whole : ℕ → Bool) (new : List Owner) → whole ≡ either first.0 g → Owns g process mid new → Owns whole process old new
  one_more_owned g whole new is second = subst (λ t. Owns t process old new) (sym is) (owns_both process first.0 g old mid first.1 new second)

  pub one_more_clash : (g later rest whole : ℕ → Bool) → later ≡ either first.0 g → whole ≡ either later rest → Clashes g process mid → Clashes whole process old
  one_more_clash g later rest whole is all c =
      subst (λ t. Clashes t process old) (sym all) (clash_first process later rest old (subst (λ t. Clashes t process old) (sym is) (clash_later process first.0 g old mid first.1 c)))

-- ---- processes one after another

for_each : (P : ℕ → Type 0) (xs : List ℕ) → ((b : ℕ) → Contains xs b → P b) → All P xs
for_each P xs f = All-weaker (Contains xs) P f xs (All-contains_itself xs)

module _ (ps : List Process) (registers : List ℕ) where
  pub owners_none : (owners : List Owner) → AreFree registers owners → AreOwners ps registers 0 owners
  owners_none owners f = record {
    sound = λ b k has. absurd (⊎_elim (λ there. nobody_process (owner_at owners b) k (f.free b there) has) (λ barred. process_barred (owner_at owners b) k has barred) (f.others b));
    whole = λ b k lt. absurd (omega arith);
    allowed = λ b there barred. nobody_barred (owner_at owners b) (f.free b there) barred;
    others = f.others;
  }

  module _ (n : ℕ) (owners : List Owner) (so_far : AreOwners ps registers n owners) (p : Process) (at : slice_get ps n ≡ Some p) where
    pub owners_more : (new : List Owner) → Owns (drives p.body) n owners new → AreOwners ps registers (n + 1) new
    owners_more new owns = record {
      sound = λ b k has. ⊎_elim
          (λ had. let s = so_far.sound b k had in (omega (arith, s.0), s.1))
          (λ mine. (omega (arith, mine.0), (p, ap (slice_get ps) mine.0 ∙ at, mine.1)))
          (owns.only b k has);
      whole = λ b k lt d. ⊎_elim
          (λ same. owns.mine b (subst (λ (q : Process). drives q.body b ≡ true) (same_Some d.0 p (sym d.1 ∙ ap (slice_get ps) same ∙ at)) d.2) ∙ ap owner.Process (sym same))
          (λ other. owns.kept b k (so_far.whole b k (omega (arith, other)) d))
          (cases_eq k n);
      allowed = λ b there barred. so_far.allowed b there (owns.opened b barred);
      others = λ b. ⊎_elim (λ there. inl there) (λ barred. inr (owns.barred b barred)) (so_far.others b);
    }

    pub owners_clash : Clashes (drives p.body) n owners → IsDriven ps registers → ⊥
    owners_clash c driven =
        let here : DrivesBit ps n c.0 = (p, at, c.1) in
        ⊎_elim (λ barred. so_far.allowed c.0 (driven.registers_alone n c.0 here) barred)
        (λ other. other.1 (driven.once other.0 n c.0 (so_far.sound c.0 other.0 other.2).1 here)) c.2

  module _ (owners : List Owner) (all : AreOwners ps registers (length ps) owners) where
    owned : (b k : ℕ) → DrivesBit ps k b → owner_at owners b ≡ owner.Process k
    owned b k d = all.whole b k (slice_get_within ps k d.0 d.1) d

    pub places_within : All (λ b. b < length owners) registers
    places_within = for_each (λ b. b < length owners) registers (λ b there. ⊎_elim (λ lt. lt) (λ past. absurd (all.allowed b there (get_or_past owners b owner.Barred past))) (cases_lt b (length owners)))

    pub driven_all : All (λ b. owner_at owners b ≢ owner.Nobody) registers → IsDriven ps registers
    driven_all each = record {
      registers_alone = λ k b d. ⊎_elim (λ there. there) (λ barred. absurd (process_barred (owner_at owners b) k (owned b k d) barred)) (all.others b);
      each = λ b there. by b there (owner_at owners b) refl;
      once = λ j k b d e. same_process (owner_at owners b) j k (owned b j d) (owned b k e);
    }
      where
        by : (b : ℕ) → Contains registers b → (o : Owner) → owner_at owners b ≡ o → (k : ℕ) × DrivesBit ps k b
        by b there owner.Barred e = absurd (all.allowed b there e)
        by b there owner.Nobody e = absurd (All-contains (λ b. owner_at owners b ≢ owner.Nobody) registers b each there e)
        by b there (owner.Process k) e = (k, (all.sound b k e).1)

    pub all_driven : IsDriven ps registers → All (λ b. owner_at owners b ≢ owner.Nobody) registers
    all_driven driven = for_each (λ b. owner_at owners b ≢ owner.Nobody) registers (λ b there free. let found = driven.each b there in nobody_process (owner_at owners b) found.0 free (owned b found.0 found.1))
