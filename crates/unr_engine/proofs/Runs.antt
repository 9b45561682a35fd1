-- How the steps of a command add up to a run.
use Rattle.std.proofs.Common.{◌≡◌, ℕ, ◌≤◌, Bool, List, [], ◌∷◌, ◌++◌, take, drop, Option, Some, None, Result, Ok, Err, Vec, refl, ap, ◌∙◌, sym, subst, inl, inr, append_assoc, arith}
use Rattle.std.proofs.lemmas.List.{append-nil, take-append-drop}
use Rattle.std.specs.declared.alloc.Global.{Global}
use Rattle.unr_io.specs.declared.desk.Kind.{Kind}
use Rattle.unr_io.specs.declared.desk.Kind.TheVariants.{Load, Store}
use Rattle.unr_io.specs.Desk.{DeskState, Told, Tells, Holds}
use Rattle.unr_io.specs.Sink.{SinkState, appended}
use Rattle.unr_engine.specs.declared.stop.Refusal.{Refusal}
use Rattle.unr_engine.specs.declared.stop.Stop.{Stop}
use Rattle.unr_engine.specs.Words.{Command}
use Rattle.unr_engine.specs.Content.{Work, Answers, Refuses}
use Rattle.unr_engine.specs.Ends.{Done, Stopped, Why, Not_words, Fault_at, Fault_of_output, Out_of_memory, Not_taken, why_of, end_of}
use Rattle.unr_engine.specs.Outcome.{IsFrontOfFile, AreLoaded, next_load, load_calls, loads_of, Written, store_calls, DeskKept, Ran}
use Rattle.unr_engine.specs.Steps.{LoadStops, Fetches, IsByDesk, Fetched, StoreStops, Keeps, Kept, IsByOutput}
use Rattle.unr_engine.proofs.Putting.{appended_nothing, rose_later}

-- two steps
pub tells_then : (a b c : Option Told) (R S Q : Told → Told → Type 0) → Tells a b R → Tells b c S → ((x y z : Told) → a ≡ Some x → R x y → S y z → Q x z) → Tells a c Q
tells_then None None None R S Q r s f = tt
tells_then None None (Some z) R S Q r s f = absurd s
tells_then None (Some y) c R S Q r s f = absurd r
tells_then (Some x) None c R S Q r s f = absurd r
tells_then (Some x) (Some y) None R S Q r s f = absurd s
tells_then (Some x) (Some y) (Some z) R S Q r s f = f x y z refl r s

-- one step
pub tells_so : (a b : Option Told) (R Q : Told → Told → Type 0) → Tells a b R → ((x y : Told) → a ≡ Some x → R x y → Q x y) → Tells a b Q
tells_so None None R Q r f = tt
tells_so None (Some y) R Q r f = absurd r
tells_so (Some x) None R Q r f = absurd r
tells_so (Some x) (Some y) R Q r f = f x y refl r

-- no step
tells_same : (a : Option Told) (Q : Told → Told → Type 0) → ((x : Told) → Q x x) → Tells a a Q
tells_same None Q f = tt
tells_same (Some x) Q f = f x

-- What a run has done so far: these bytes were loaded and these files stored, and no call failed.
pub record SoFar (command : Command) (loaded : List (List ℕ)) (held : List (List ℕ × List ℕ)) (desk desk' : DeskState) : Type 0 where
  pub later : desk.faults ≤ desk'.faults
  pub known : Tells desk.told desk'.told (DeskKept command loaded held [])

-- nothing is loaded
none_loaded : (loads : List (List ℕ × ℕ)) (files : List (List ℕ × List ℕ)) → AreLoaded loads [] files
none_loaded [] files = tt
none_loaded (load ∷ loads) files = tt

no_load_calls : (loads : List (List ℕ × ℕ)) → load_calls loads [] ≡ []
no_load_calls [] = refl
no_load_calls (load ∷ loads) = refl

pub begun : (command : Command) (desk : DeskState) → SoFar command [] [] desk desk
begun command desk = record {
  later = omega arith;
  known = tells_same desk.told (DeskKept command [] [] []) (λ x. record { bytes = none_loaded (loads_of command) x.files; files = refl; calls = sym (append-nil x.calls) ∙ ap (λ cs. x.calls ++ (cs ++ [])) (sym (no_load_calls (loads_of command))) });
}

-- one more file
loaded_more : (loads : List (List ℕ × ℕ)) (loaded : List (List ℕ)) (load : List ℕ × ℕ) (bytes : List ℕ) (files : List (List ℕ × List ℕ)) → next_load loads loaded ≡ Some load → AreLoaded loads loaded files → IsFrontOfFile load files bytes → AreLoaded loads (loaded ++ bytes ∷ []) files
loaded_more [] loaded load bytes files next are front = cc
loaded_more (first ∷ loads) [] load bytes files next are front =
    (let same : load ≡ first = cc in rw (← same) front, none_loaded loads files)
loaded_more (first ∷ loads) (b ∷ loaded) load bytes files next are front = (are.0, loaded_more loads loaded load bytes files next are.1 front)

calls_more : (loads : List (List ℕ × ℕ)) (loaded : List (List ℕ)) (load : List ℕ × ℕ) (bytes : List ℕ) → next_load loads loaded ≡ Some load → load_calls loads (loaded ++ bytes ∷ []) ≡ load_calls loads loaded ++ (Load, load.0) ∷ []
calls_more [] loaded load bytes next = cc
calls_more (first ∷ loads) [] load bytes next =
    let same : first ≡ load = cc in
    ap (λ (l : List ℕ × ℕ). (Load, l.0) ∷ load_calls loads []) same ∙ ap (λ cs. (Load, load.0) ∷ cs) (no_load_calls loads)
calls_more (first ∷ loads) (b ∷ loaded) load bytes next = ap (λ cs. (Load, first.0) ∷ cs) (calls_more loads loaded load bytes next)

-- a call after those so far
one_more_call : (was mid is made : List (Kind × List ℕ)) (call : Kind × List ℕ) → mid ≡ was ++ (made ++ []) → is ≡ mid ++ call ∷ [] → is ≡ was ++ (made ++ call ∷ [])
one_more_call was mid is made call before now =
    now ∙ (ap (λ cs. cs ++ call ∷ []) (before ∙ ap (λ cs. was ++ cs) (append-nil made)) ∙ append_assoc was made (call ∷ []))

pub fetched : (command : Command) (loaded : List (List ℕ)) (name : List ℕ) (most : ℕ) (bytes : Vec ℕ Global) (desk desk' desk'' : DeskState)
    → SoFar command loaded [] desk desk' → next_load (loads_of command) loaded ≡ Some (name, most)
    → Fetched name most (Ok bytes) desk' desk'' → SoFar command (loaded ++ bytes.items ∷ []) [] desk desk''
fetched command loaded name most bytes desk desk' desk'' so next f = record {
  later = omega (arith, so.later, f.later);
  known = tells_then desk.told desk'.told desk''.told (DeskKept command loaded [] []) (Fetches name most (Ok bytes)) (DeskKept command (loaded ++ bytes.items ∷ []) [] []) so.known f.told (λ x y z e k h. record {
    bytes = loaded_more (loads_of command) loaded (name, most) bytes.items x.files next k.bytes (let P : List (List ℕ × List ℕ) → Type 0 = λ files. IsFrontOfFile (name, most) files bytes.items in subst P k.files h.0);
    files = ap (λ (t : Told). t.files) h.1 ∙ k.files;
    calls = one_more_call x.calls y.calls z.calls (load_calls (loads_of command) loaded) (Load, name) k.calls (ap (λ (t : Told). t.calls) h.1) ∙ ap (λ cs. x.calls ++ cs) (sym (calls_more (loads_of command) loaded (name, most) bytes.items next) ∙ sym (append-nil (load_calls (loads_of command) (loaded ++ bytes.items ∷ []))));
  });
}

-- a load that stops the run
pub fetch_stopped : (command : Command) (loaded : List (List ℕ)) (name : List ℕ) (most : ℕ) (why : Why) (desk desk' desk'' : DeskState) (out : SinkState)
    → SoFar command loaded [] desk desk' → next_load (loads_of command) loaded ≡ Some (name, most)
    → Tells desk'.told desk''.told (LoadStops name why) → IsByDesk Load name why desk'.faults desk''.faults
    → Ran command (Stopped why) desk desk'' out out
fetch_stopped command loaded name most (Fault_at Load other) desk desk' desk'' out so next told by = record {
  loaded = loaded;
  held = [];
  desk_kept = tells_then desk.told desk'.told desk''.told (DeskKept command loaded [] []) (LoadStops name (Fault_at Load other)) (DeskKept command loaded [] ((Load, other) ∷ [])) so.known told (λ x y z e k h. record {
    bytes = k.bytes;
    files = ap (λ (t : Told). t.files) h ∙ k.files;
    calls = one_more_call x.calls y.calls z.calls (load_calls (loads_of command) loaded) (Load, other) k.calls (ap (λ (t : Told). t.calls) h ∙ ap (λ n. y.calls ++ (Load, n) ∷ []) (sym by.1));
  });
  piece = [];
  written = appended_nothing out.written;
  reason = ((most, rw by.1 next), rose_later desk.faults desk'.faults desk''.faults so.later by.2, refl, refl);
}
fetch_stopped command loaded name most (Fault_at Store other) desk desk' desk'' out so next told by = absurd (cc by.0)
fetch_stopped command loaded name most Out_of_memory desk desk' desk'' out so next told by = record {
  loaded = loaded;
  held = [];
  desk_kept = tells_then desk.told desk'.told desk''.told (DeskKept command loaded [] []) (LoadStops name Out_of_memory) (DeskKept command loaded [] []) so.known told (λ x y z e k h. let P : Told → Type 0 = λ t. DeskKept command loaded [] [] x t in subst P (sym h) k);
  piece = [];
  written = appended_nothing out.written;
  reason = inl (refl, refl);
}
fetch_stopped command loaded name most Not_words desk desk' desk'' out so next told by = absurd by
fetch_stopped command loaded name most Fault_of_output desk desk' desk'' out so next told by = absurd by
fetch_stopped command loaded name most (Not_taken refusal) desk desk' desk'' out so next told by = absurd by

-- the content is refused
pub refused : (command : Command) (loaded : List (List ℕ)) (refusal : Refusal) (desk desk' : DeskState) (out : SinkState)
    → SoFar command loaded [] desk desk' → Refuses command loaded refusal → Ran command (Stopped (Not_taken refusal)) desk desk' out out
refused command loaded refusal desk desk' out so why = record {
  loaded = loaded;
  held = [];
  desk_kept = so.known;
  piece = [];
  written = appended_nothing out.written;
  reason = (why, refl, refl);
}

-- memory runs out
pub no_memory : (command : Command) (loaded : List (List ℕ)) (desk desk' : DeskState) (out : SinkState)
    → SoFar command loaded [] desk desk' → Ran command (Stopped Out_of_memory) desk desk' out out
no_memory command loaded desk desk' out so = record {
  loaded = loaded;
  held = [];
  desk_kept = so.known;
  piece = [];
  written = appended_nothing out.written;
  reason = inl (refl, refl);
}

-- ---- stores

written_more : (held : List (List ℕ × List ℕ)) (name bytes : List ℕ) (was mid is : List (List ℕ × List ℕ)) → Written held was mid → Holds name bytes mid is → Written (held ++ (name, bytes) ∷ []) was is
written_more [] name bytes was mid is w h = (is, (let P : List (List ℕ × List ℕ) → Type 0 = λ files. Holds name bytes files is in subst P w h), refl)
written_more (file ∷ held) name bytes was mid is (between, h, w) holds = (between, h, written_more held name bytes between mid is w holds)

pub store_calls_more : (held : List (List ℕ × List ℕ)) (name bytes : List ℕ) → store_calls (held ++ (name, bytes) ∷ []) ≡ store_calls held ++ (Store, name) ∷ []
store_calls_more [] name bytes = refl
store_calls_more (file ∷ held) name bytes = ap (λ cs. (Store, file.0) ∷ cs) (store_calls_more held name bytes)

-- a store's call after those so far
one_more_store : (was mid is loads : List (Kind × List ℕ)) (held : List (List ℕ × List ℕ)) (name bytes : List ℕ) → mid ≡ was ++ (loads ++ (store_calls held ++ [])) → is ≡ mid ++ (Store, name) ∷ []
    → is ≡ was ++ (loads ++ (store_calls (held ++ (name, bytes) ∷ []) ++ []))
one_more_store was mid is loads held name bytes before now =
    now
    ∙ (ap (λ cs. cs ++ (Store, name) ∷ []) (before ∙ ap (λ cs. was ++ (loads ++ cs)) (append-nil (store_calls held)))
    ∙ (append_assoc was (loads ++ store_calls held) ((Store, name) ∷ [])
    ∙ ap (λ cs. was ++ cs) (append_assoc loads (store_calls held) ((Store, name) ∷ [])
    ∙ ap (λ cs. loads ++ cs) (sym (store_calls_more held name bytes) ∙ sym (append-nil (store_calls (held ++ (name, bytes) ∷ [])))))))

store_kept : (command : Command) (loaded : List (List ℕ)) (held : List (List ℕ × List ℕ)) (name bytes : List ℕ) (x y z : Told) → DeskKept command loaded held [] x y → Holds name bytes y.files z.files → z.calls ≡ y.calls ++ (Store, name) ∷ []
    → DeskKept command loaded (held ++ (name, bytes) ∷ []) [] x z
store_kept command loaded held name bytes x y z k holds calls = record {
  bytes = k.bytes;
  files = written_more held name bytes x.files y.files z.files k.files holds;
  calls = one_more_store x.calls y.calls z.calls (load_calls (loads_of command) loaded) held name bytes k.calls calls;
}

pub stored : (command : Command) (loaded : List (List ℕ)) (held : List (List ℕ × List ℕ)) (name bytes : List ℕ) (done : Unit {0}) (desk desk' desk'' : DeskState)
    → SoFar command loaded held desk desk' → Kept name bytes (Ok done) desk' desk'' → SoFar command loaded (held ++ (name, bytes) ∷ []) desk desk''
stored command loaded held name bytes done desk desk' desk'' so f = record {
  later = omega (arith, so.later, f.later);
  known = tells_then desk.told desk'.told desk''.told (DeskKept command loaded held []) (Keeps name bytes (Ok done)) (DeskKept command loaded (held ++ (name, bytes) ∷ []) []) so.known f.told (λ x y z e k h. store_kept command loaded held name bytes x y z k h.0 h.1);
}

-- how much a failed store left
record LeftSome (command : Command) (loaded : List (List ℕ)) (held : List (List ℕ × List ℕ)) (name bytes : List ℕ) (was is : Option Told) : Type 0 where
  kept : ℕ
  known : Tells was is (DeskKept command loaded (held ++ (name, take kept bytes) ∷ []) [])

left_some : (command : Command) (loaded : List (List ℕ)) (held : List (List ℕ × List ℕ)) (name bytes other : List ℕ) (kind : Kind) (a b c : Option Told)
    → Tells a b (DeskKept command loaded held []) → Tells b c (StoreStops name bytes (Fault_at kind other)) → LeftSome command loaded held name bytes a c
left_some command loaded held name bytes other kind None None None r s = record { kept = 0; known = tt }
left_some command loaded held name bytes other kind None None (Some z) r s = absurd s
left_some command loaded held name bytes other kind None (Some y) c r s = absurd r
left_some command loaded held name bytes other kind (Some x) None c r s = absurd r
left_some command loaded held name bytes other kind (Some x) (Some y) None r s = absurd s
left_some command loaded held name bytes other kind (Some x) (Some y) (Some z) r s =
    record { kept = s.0.0; known = store_kept command loaded held name (take s.0.0 bytes) x y z r s.0.1 s.1 }

-- a store that stops the run
pub keep_stopped : (command : Command) (loaded : List (List ℕ)) (work : Work) (held : List (List ℕ × List ℕ)) (name bytes : List ℕ) (after : List (List ℕ × List ℕ)) (why : Why) (desk desk' desk'' : DeskState) (out : SinkState)
    → SoFar command loaded held desk desk' → Answers command loaded work → work.stores ≡ held ++ (name, bytes) ∷ after
    → Tells desk'.told desk''.told (StoreStops name bytes why) → IsByDesk Store name why desk'.faults desk''.faults
    → Ran command (Stopped why) desk desk'' out out
keep_stopped command loaded work held name bytes after (Fault_at Load other) desk desk' desk'' out so answer all told by = absurd (cc by.0)
keep_stopped command loaded work held name bytes after (Fault_at Store other) desk desk' desk'' out so answer all told by =
    let left = left_some command loaded held name bytes other Store desk.told desk'.told desk''.told so.known told in
    record {
      loaded = loaded;
      held = held ++ (name, take left.kept bytes) ∷ [];
      desk_kept = left.known;
      piece = [];
      written = appended_nothing out.written;
      reason = (
        (
          work,
          answer,
          record {
            before = held;
            bytes = bytes;
            after = after;
            kept = left.kept;
            all = all ∙ ap (λ n. held ++ (n, bytes) ∷ after) (sym by.1);
            left = ap (λ n. held ++ (n, take left.kept bytes) ∷ []) (sym by.1);
          },
        ),
        rose_later desk.faults desk'.faults desk''.faults so.later by.2,
        refl,
      );
    }
keep_stopped command loaded work held name bytes after Out_of_memory desk desk' desk'' out so answer all told by = record {
  loaded = loaded;
  held = held;
  desk_kept = tells_then desk.told desk'.told desk''.told (DeskKept command loaded held []) (StoreStops name bytes Out_of_memory) (DeskKept command loaded held []) so.known told (λ x y z e k h. let P : Told → Type 0 = λ t. DeskKept command loaded held [] x t in subst P (sym h) k);
  piece = [];
  written = appended_nothing out.written;
  reason = inr (inl ((work, answer, ((name, bytes) ∷ after, sym all)), refl));
}
keep_stopped command loaded work held name bytes after Not_words desk desk' desk'' out so answer all told by = absurd by
keep_stopped command loaded work held name bytes after Fault_of_output desk desk' desk'' out so answer all told by = absurd by
keep_stopped command loaded work held name bytes after (Not_taken refusal) desk desk' desk'' out so answer all told by = absurd by

-- ---- the output

-- the output is refused
pub delivery_stopped : (command : Command) (loaded : List (List ℕ)) (work : Work) (why : Why) (desk desk' : DeskState) (out out' : SinkState)
    → SoFar command loaded work.stores desk desk' → Answers command loaded work
    → (count : ℕ) → out'.written ≡ appended out.written (take count work.text) → IsByOutput why out.faults out'.faults
    → Ran command (Stopped why) desk desk' out out'
delivery_stopped command loaded work Fault_of_output desk desk' out out' so answer count put by = record {
  loaded = loaded;
  held = work.stores;
  desk_kept = so.known;
  piece = take count work.text;
  written = put;
  reason = ((work, answer, refl, (drop count work.text, take-append-drop count work.text)), by);
}
delivery_stopped command loaded work Out_of_memory desk desk' out out' so answer count put by = record {
  loaded = loaded;
  held = work.stores;
  desk_kept = so.known;
  piece = take count work.text;
  written = put;
  reason = inr (inr (work, answer, refl, (drop count work.text, take-append-drop count work.text)));
}
delivery_stopped command loaded work Not_words desk desk' out out' so answer count put by = absurd by
delivery_stopped command loaded work (Fault_at kind name) desk desk' out out' so answer count put by = absurd by
delivery_stopped command loaded work (Not_taken refusal) desk desk' out out' so answer count put by = absurd by

-- the text is put out, and the run ends with that
pub delivered : (command : Command) (loaded : List (List ℕ)) (work : Work) (desk desk' : DeskState) (out out' : SinkState)
    → SoFar command loaded work.stores desk desk' → Answers command loaded work → out'.written ≡ appended out.written work.text → Ran command (Done work.left_open) desk desk' out out'
delivered command loaded work desk desk' out out' so answer put = record {
  loaded = loaded;
  held = work.stores;
  desk_kept = so.known;
  piece = work.text;
  written = put;
  reason = answer;
}

-- an error that `?` hands on
pub handed_on : (command : Command) (result : Result Bool Stop) (stop : Stop) (why : Why) (desk desk' : DeskState) (out out' : SinkState)
    → result ≡ Err stop → why_of stop ≡ why → Ran command (Stopped why) desk desk' out out' → Ran command (end_of result) desk desk' out out'
handed_on command result stop why desk desk' out out' e same ran = rw (e, same) ran
