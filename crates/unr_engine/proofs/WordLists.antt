-- What words that are read one after the other name.
use Rattle.std.proofs.Common.{◌≡◌, ℕ, ◌^◌, ◌≤◌, List, [], ◌∷◌, Some, None, refl, ap, ◌∙◌, sym, subst, Bool, cond, true, false, codes, inl, inr, arith}
use Rattle.std.specs.Str.{bytes_eq}
use Rattle.std.proofs.lemmas.Slice.Eq.{bytes_eq-Decides}
use Rattle.unr_engine.specs.declared.options.Key.TheVariants.{Effort, Points}
use Rattle.unr_io.specs.Desk.{DeskState}
use Rattle.unr_io.specs.Sink.{SinkState}
use Rattle.design_core.specs.declared.setup.Kinds.{Kinds}
use Rattle.cert_text.specs.Kinds.{kinds_named, AreBuilt}
use Rattle.unr_engine.specs.Words.{Command, Check_files, Prove_file, Names, NamesNothing, values, IsEffort, AreKinds}
use Rattle.unr_engine.specs.Requests.{is_option, check_of, prove_of, command_of, CanRun}
use Rattle.unr_engine.specs.Ends.{End, Stopped, Not_words}
use Rattle.unr_engine.specs.Outcome.{Ran, Ended}
use Rattle.unr_engine.proofs.Entries.{no_option, plain, prove_named, prove_found}

-- the words after `check`
files_named : (a b : Bool) (name file cert : List ℕ) (command : Command) → name ≡ codes "check" → is_option file ≡ a → is_option cert ≡ b → cond a None (cond b None (Some (Check_files file cert))) ≡ Some command → Names (name ∷ file ∷ cert ∷ []) command
files_named true b name file cert command n x y e = cc
files_named false true name file cert command n x y e = cc
files_named false false name file cert command n x y e =
    let same : Check_files file cert ≡ command = cc in
    subst (λ c. Names (name ∷ file ∷ cert ∷ []) c) same (ap (λ w. w ∷ file ∷ cert ∷ []) n, no_option file x, no_option cert y)

check_named : (name : List ℕ) (words : List (List ℕ)) (command : Command) → name ≡ codes "check" → check_of words ≡ Some command → Names (name ∷ words) command
check_named name [] command n e = cc
check_named name (file ∷ []) command n e = cc
check_named name (file ∷ cert ∷ []) command n e = files_named (is_option file) (is_option cert) name file cert command n refl refl e
check_named name (file ∷ cert ∷ word ∷ words) command n e = cc

prove_is_named : (name : List ℕ) (words : List (List ℕ)) (command : Command) → name ≡ codes "prove" → prove_of words ≡ Some command → Names (name ∷ words) command
prove_is_named name words command n e =
    let a = prove_named words command e in
    subst (λ c. Names (name ∷ words) c) a.is (words, ap (λ w. w ∷ words) n, a.ask)

prove_if : (b : Bool) (name : List ℕ) (words : List (List ℕ)) (command : Command) → (b ≡ true → name ≡ codes "prove") → cond b (prove_of words) None ≡ Some command → Names (name ∷ words) command
prove_if true name words command n e = prove_is_named name words command (n refl) e
prove_if false name words command n e = cc

named_if : (b : Bool) (name : List ℕ) (words : List (List ℕ)) (command : Command) → (b ≡ true → name ≡ codes "check") → cond b (check_of words) (cond (bytes_eq name (codes "prove")) (prove_of words) None) ≡ Some command → Names (name ∷ words) command
named_if true name words command n e = check_named name words command (n refl) e
named_if false name words command n e = prove_if (bytes_eq name (codes "prove")) name words command ((bytes_eq-Decides name (codes "prove")).0) e

-- the command that is found is the one that the words name
pub named : (words : List (List ℕ)) (command : Command) → command_of words ≡ Some command → Names words command
named [] command e = cc
named (name ∷ words) command e = named_if (bytes_eq name (codes "check")) name words command ((bytes_eq-Decides name (codes "check")).0) e

found : (words : List (List ℕ)) (command : Command) → Names words command → command_of words ≡ Some command
found words (Check_files file cert) names =
    ap command_of names.0 ∙ (ap (λ a. cond a None (cond (is_option cert) None (Some (Check_files file cert)))) (plain file names.1) ∙ ap (λ b. cond b None (Some (Check_files file cert))) (plain cert names.2))
found words (Prove_file file top clock prefix kinds effort) names = ap command_of names.1 ∙ prove_found names.0 file top clock prefix kinds effort names.2

pub nothing_named : (words : List (List ℕ)) → command_of words ≡ None → NamesNothing words
nothing_named words e = λ command names. let k : None ≡ Some command = sym e ∙ found words command names in cc

-- words name one command at most
pub same_command : (words : List (List ℕ)) (command other : Command) → Names words command → Names words other → command ≡ other
same_command words command other a b = let k : Some command ≡ Some other = sym (found words command a) ∙ found words other b in cc

-- and what they ask `prove` for can be given to it
effort_fits : (given : List (List ℕ)) (effort : ℕ) → IsEffort given effort → (1 ≤ effort) × (effort ≤ 10 ^ 18)
effort_fits [] effort is = (omega (arith, is), omega (arith, is))
effort_fits (word ∷ []) effort (is, some, most) = (some, most)
effort_fits (word ∷ other ∷ more) effort is = absurd is

kinds_fit : (given : List (List ℕ)) (kinds : Kinds) → AreKinds given kinds → AreBuilt kinds
kinds_fit [] kinds is = let built : AreBuilt (kinds_named true true) = record { some = refl; alone = refl } in subst AreBuilt (sym is) built
kinds_fit (word ∷ []) kinds is = is.1
kinds_fit (word ∷ other ∷ more) kinds is = absurd is

can_run : (words : List (List ℕ)) (command : Command) → Names words command → CanRun command
can_run words (Check_files file cert) names = tt
can_run words (Prove_file file top clock prefix kinds effort) names =
    let effort_is = effort_fits (values Effort names.2.entries) effort names.2.effort_given in
    (effort_is.0, effort_is.1, kinds_fit (values Points names.2.entries) kinds names.2.kinds_given)

pub can_run_found : (words : List (List ℕ)) (meant : Command) → Some meant ≡ command_of words → CanRun meant
can_run_found words meant e = can_run words meant (named words meant (sym e))

pub no_command : (words : List (List ℕ)) (desk : DeskState) (out : SinkState) → None ≡ command_of words → Ended words (Stopped Not_words) desk desk out out
no_command words desk out e = inr (nothing_named words (sym e), record { why = refl; desk_same = refl; out_same = refl })

pub some_command : (words : List (List ℕ)) (meant : Command) (end : End) (desk desk' : DeskState) (out out' : SinkState) → Some meant ≡ command_of words → Ran meant end desk desk' out out' → Ended words end desk desk' out out'
some_command words meant end desk desk' out out' e ran = inl (meant, named words meant (sym e), ran)
