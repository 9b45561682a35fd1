-- What a body does depends on what it needs, and changes what it drives.
use Rattle.std.proofs.Common.{◌≡◌, ℕ, Bool, true, false, cond, ◌&&◌, ◌||◌, nat_eq, List, [], ◌∷◌, ◌++◌, refl, sym, ap, ◌∙◌, length, inl, inr, true≢false, ◌+◌}
use Rattle.bit_exprs.specs.Values.{bit_at, value_of}
use Rattle.bit_exprs.specs.Updates.{perform, updates_of}
use Rattle.bit_exprs.specs.Named.{among, reads, certain_bits, target_reads}
use Rattle.bit_exprs.proofs.Reading.{Agree, same_value, same_updates}
use Rattle.bit_exprs.proofs.Performing.{length-perform, performed_other, performed_both}
use Rattle.bit_exprs.proofs.Given.{not_given, certain_given}
use Rattle.bit_exprs.specs.declared.forms.Expr.{Expr}
use Rattle.bit_exprs.specs.declared.forms.Target.{Target}
use Rattle.design_core.specs.declared.flat.Stmt.{Stmt, Row_of-Stmt, end_of-Stmt, more_of-Stmt}
use Rattle.design_core.specs.declared.flat.Stmt.TheVariants.{Assign, Branch', Block'}
use Rattle.design_core.specs.Exec.{Effect, exec, exec_all, exec_each}
use Rattle.design_core.specs.Drive.{drives, any_drives, always, any_always, needs, any_needs}
use Rattle.design_core.specs.Bounds.{AssignsBy, AssignBy}
use Rattle.design_core.proofs.Truth.{or_left, or_right, or_cases, or_false_left, or_false_right, either_way, or_false, or_and_left, or_and_right, or_swap}

-- a fact of both sides is one of the choice
pub by_cond : (P : Effect → Type 0) (c : Bool) (x y : Effect) → P x → P y → P (cond c x y)
by_cond P true x y p q = p
by_cond P false x y p q = q

by_same_cond : (P : Effect → Effect → Type 0) (c d : Bool) (x y x' y' : Effect) → c ≡ d → P x x' → P y y' → P (cond c x y) (cond d x' y')
by_same_cond P true true x y x' y' e p q = p
by_same_cond P false false x y x' y' e p q = q
by_same_cond P true false x y x' y' e p q = absurd (true≢false e)
by_same_cond P false true x y x' y' e p q = absurd (true≢false (sym e))

-- ---- bodies

mutual
  pub same_length : (s : Stmt) (v : List Bool) → length (exec s v).values ≡ length v
  same_length (Assign site true target value) v = refl
  same_length (Assign site false target value) v = length-perform (updates_of target (value_of value v) v) v
  same_length (Branch' site test p x q y) v =
      by_cond (λ e. length e.values ≡ length v) (nat_eq (value_of test v) 0) _ _ (same_length_all y v) (same_length_all x v)
  same_length (Block' shape all) v = same_length_all all v

  pub same_length_all : {m : _} (all : Row_of-Stmt m) (v : List Bool) → length (exec_all all v).values ≡ length v
  same_length_all end_of-Stmt v = refl
  same_length_all (more_of-Stmt s rest) v = same_length_all rest _ ∙ same_length s v

mutual
  -- a bit that a body doesn't drive keeps its value
  pub untouched : (s : Stmt) (b : ℕ) (v : List Bool) → drives s b ≡ false → bit_at (exec s v).values b ≡ bit_at v b
  untouched (Assign site true target value) b v h = refl
  untouched (Assign site false target value) b v h = performed_other (updates_of target (value_of value v) v) v b (not_given target (value_of value v) v b h)
  untouched (Branch' site test p x q y) b v h =
      by_cond (λ e. bit_at e.values b ≡ bit_at v b) (nat_eq (value_of test v) 0) _ _ (untouched_all y b v (or_false_right (any_drives x b) _ h)) (untouched_all x b v (or_false_left _ _ h))
  untouched (Block' shape all) b v h = untouched_all all b v h

  untouched_all : {m : _} (all : Row_of-Stmt m) (b : ℕ) (v : List Bool) → any_drives all b ≡ false → bit_at (exec_all all v).values b ≡ bit_at v b
  untouched_all end_of-Stmt b v h = refl
  untouched_all (more_of-Stmt s rest) b v h = untouched_all rest b _ (or_false_right (drives s b) _ h) ∙ untouched s b v (or_false_left _ _ h)

mutual
  -- nonblocking assignments leave the values
  pub waits : (s : Stmt) (v : List Bool) → AssignsBy true s → (exec s v).values ≡ v
  waits (Assign site true target value) v h = refl
  waits (Assign site false target value) v h = absurd (true≢false (sym h))
  waits (Branch' site test p x q y) v h =
      by_cond (λ e. e.values ≡ v) (nat_eq (value_of test v) 0) _ _ (waits_all y v h.1) (waits_all x v h.0)
  waits (Block' shape all) v h = waits_all all v h

  waits_all : {m : _} (all : Row_of-Stmt m) (v : List Bool) → AssignBy true all → (exec_all all v).values ≡ v
  waits_all end_of-Stmt v h = refl
  waits_all (more_of-Stmt s rest) v h = waits_all rest _ h.1 ∙ waits s v h.0

-- two effects have the same updates and marks, and values that agree on the known bits
pub record Same (known : ℕ → Bool) (e f : Effect) : Type 0 where
  pub values : Agree known e.values f.values
  pub updates : e.updates ≡ f.updates
  pub marks : e.marks ≡ f.marks

-- an assignment whose value and indices read known bits
same_assigned : (target : Target) (value : Expr) (known : ℕ → Bool) (v w : List Bool) →
    ((b : ℕ) → reads value b || target_reads target b ≡ true → known b ≡ true) → Agree known v w →
    updates_of target (value_of value v) v ≡ updates_of target (value_of value w) w
same_assigned target value known v w need agree =
    ap (λ a. updates_of target a v) (same_value value v w (λ b r. agree b (need b (or_left _ _ r))))
    ∙ same_updates target (value_of value w) v w (λ b r. agree b (need b (or_right (reads value b) _ r)))

mutual
  -- a body does the same from values that agree on what it needs, and then agrees on what it assigns at once on every path too
  pub same_effect : (s : Stmt) (known : ℕ → Bool) (v w : List Bool) → length v ≡ length w →
      ((b : ℕ) → needs s b ≡ true → known b ≡ true) → Agree known v w →
      Same (λ b. known b || always s b) (exec s v) (exec s w)
  same_effect (Assign site true target value) known v w len need agree = record {
    values = λ b k. agree b (or_false (known b) k);
    updates = same_assigned target value known v w need agree;
    marks = refl;
  }
  same_effect (Assign site false target value) known v w len need agree =
      let us = updates_of target (value_of value v) v in record {
        values = λ b k. performed_both us v w b len
            (λ no. elim (or_cases (known b) (among (certain_bits target) b) k) [
              | inl kn ↦ agree b kn
              | inr certain ↦ absurd (true≢false (sym (certain_given target (value_of value v) v b certain) ∙ no))
            ])
            ∙ ap (λ x. bit_at (perform x w) b) (same_assigned target value known v w need agree);
        updates = refl;
        marks = refl;
      }
  same_effect (Branch' site test p x q y) known v w len need agree =
      let same = same_value test v w (λ b r. agree b (need b (or_left _ _ r))) in
      let e = same_effect_all x known v w len (λ b r. need b (or_right (reads test b) _ (or_left _ _ r))) agree in
      let f = same_effect_all y known v w len (λ b r. need b (or_right (reads test b) _ (or_right (any_needs x b) _ r))) agree in
      by_same_cond (Same (λ b. known b || (any_always x b && any_always y b))) (nat_eq (value_of test v) 0) (nat_eq (value_of test w) 0) _ _ _ _ (ap (λ a. nat_eq a 0) same)
      (record {
        values = λ b k. f.values b (or_and_right (known b) (any_always x b) (any_always y b) k);
        updates = f.updates;
        marks = ap (λ m. (site + 1) ∷ m) f.marks;
      })
      (record {
        values = λ b k. e.values b (or_and_left (known b) (any_always x b) (any_always y b) k);
        updates = e.updates;
        marks = ap (λ m. site ∷ m) e.marks;
      })
  same_effect (Block' shape all) known v w len need agree = same_effect_all all known v w len need agree

  same_effect_all : {m : _} (all : Row_of-Stmt m) (known : ℕ → Bool) (v w : List Bool) → length v ≡ length w →
      ((b : ℕ) → any_needs all b ≡ true → known b ≡ true) → Agree known v w →
      Same (λ b. known b || any_always all b) (exec_all all v) (exec_all all w)
  same_effect_all end_of-Stmt known v w len need agree = record { values = λ b k. agree b (or_false (known b) k); updates = refl; marks = refl }
  same_effect_all (more_of-Stmt s rest) known v w len need agree =
      let e = same_effect s known v w len (λ b r. need b (or_left _ _ r)) agree in
      let f = same_effect_all rest (λ b. known b || always s b) (exec s v).values (exec s w).values
      (same_length s v ∙ len ∙ sym (same_length s w))
      (λ b r. either_way (always s b) (λ a. or_right (known b) _ a) (λ a. or_left (known b) (always s b) (need b (or_right (needs s b) _ (rw (a, r) refl)))))
      e.values in record {
        values = λ b k. f.values b (or_swap (known b) (always s b) (any_always rest b) k);
        updates = (λ j. e.updates j ++ f.updates j);
        marks = (λ j. e.marks j ++ f.marks j);
      }

pub same_length_each : (ss : List Stmt) (v : List Bool) → length (exec_each ss v).values ≡ length v
same_length_each [] v = refl
same_length_each (s ∷ rest) v = same_length_each rest _ ∙ same_length s v
