-- Puts one after the other.
use Rattle.std.proofs.Common.{◌≡◌, ℕ, ◌+◌, ◌≤◌, List, [], ◌++◌, length, take, drop, Option, Some, None, Result, Ok, Err, refl, ap, ◌∙◌, sym, inl, inr, append_assoc, arith}
use Rattle.std.proofs.lemmas.List.{append-nil, take-append-drop}
use Rattle.std.proofs.Math.Seq.{take-append_seam, take-append-add}
use Rattle.std.proofs.lemmas.Result.{on_ok_weaker, on_err_weaker}
use Rattle.unr_io.specs.declared.sink.SinkError.{SinkError}
use Rattle.unr_io.specs.declared.sink.SinkError.TheVariants.{Failed, Memory}
use Rattle.unr_io.specs.Desk.{Rose}
use Rattle.unr_io.specs.Sink.{SinkState, appended, Puts}
use Rattle.unr_engine.specs.Outcome.{Says}

appended_twice : (written : Option (List ℕ)) (xs ys : List ℕ) → appended (appended written xs) ys ≡ appended written (xs ++ ys)
appended_twice None xs ys = refl
appended_twice (Some so_far) xs ys = ap (λ zs. Some zs) (append_assoc so_far xs ys)

pub appended_nothing : (written : Option (List ℕ)) → written ≡ appended written []
appended_nothing None = refl
appended_nothing (Some so_far) = ap (λ xs. Some xs) (sym (append-nil so_far))

-- a later rise is a rise
pub rose_later : (a b c : ℕ) → a ≤ b → Rose b c → Rose a c
rose_later a b c le rose = omega arith

-- one put and then others
pub puts_then : (xs ys : List ℕ) (done : Unit {0}) (result : Result (Unit {0}) SinkError) (s t u : SinkState) → Puts {T = Unit {0}} xs (Ok done) s t → Puts ys result t u → Puts (xs ++ ys) result s u
puts_then xs ys done result s t u p q = record {
  whole = on_ok_weaker result (λ e. e ∙ (ap (λ w. appended w ys) p.whole ∙ appended_twice s.written xs ys)) q.whole;
  front = on_err_weaker result (λ h. (length xs + h.0, h.1 ∙ (ap (λ w. appended w (take h.0 ys)) p.whole ∙ (appended_twice s.written xs (take h.0 ys) ∙ ap (λ zs. appended s.written zs) (sym (take-append-add xs ys h.0)))))) q.front;
  later = omega (arith, p.later, q.later);
  more_refusals = omega (arith, p.more_refusals, q.more_refusals);
  failed = λ e. rose_later s.faults t.faults u.faults p.later (q.failed e);
  memory = λ e. rose_later s.refusals t.refusals u.refusals p.more_refusals (q.memory e);
}

taken_front : (n : ℕ) (xs ys : List ℕ) → take (length (take n xs)) (xs ++ ys) ≡ take n xs
taken_front n xs ys =
    ap (λ zs. take (length (take n xs)) zs) (ap (λ zs. zs ++ ys) (sym (take-append-drop n xs)) ∙ append_assoc (take n xs) (drop n xs) ys) ∙ take-append_seam (take n xs) (drop n xs ++ ys)

-- a put that fails ends the others
pub puts_stop : (xs ys : List ℕ) (error : SinkError) (result : Result (Unit {0}) SinkError) (s t : SinkState) → result ≡ Err error → Puts {T = Unit {0}} xs (Err error) s t → Puts (xs ++ ys) result s t
puts_stop xs ys error result s t e p = rw e (record {
  whole = tt;
  front = (length (take p.front.0 xs), p.front.1 ∙ ap (λ zs. appended s.written zs) (sym (taken_front p.front.0 xs ys)));
  later = p.later;
  more_refusals = p.more_refusals;
  failed = p.failed;
  memory = p.memory;
})

-- nothing to put
pub puts_nothing : (done : Unit {0}) (s : SinkState) → Puts {T = Unit {0}} [] (Ok done) s s
puts_nothing done s = record {
  whole = appended_nothing s.written;
  front = tt;
  later = omega arith;
  more_refusals = omega arith;
  failed = λ e. absurd (cc e);
  memory = λ e. absurd (cc e);
}

-- the same text
pub puts_same : (xs ys : List ℕ) (result : Result (Unit {0}) SinkError) (s t : SinkState) → xs ≡ ys → Puts xs result s t → Puts ys result s t
puts_same xs ys result s t e p = rw (← e) p

-- what is said by puts
pub says_put : (message : List ℕ) (result : Result (Unit {0}) SinkError) (s t : SinkState) → Puts message result s t → Says message s t
says_put message (Ok done) s t p = record { said = message; written = p.whole; whole = inl refl }
says_put message (Err Failed) s t p = record {
  said = take p.front.0 message;
  written = p.front.1;
  whole = inr ((drop p.front.0 message, take-append-drop p.front.0 message), inl (p.failed refl));
}
says_put message (Err Memory) s t p = record {
  said = take p.front.0 message;
  written = p.front.1;
  whole = inr ((drop p.front.0 message, take-append-drop p.front.0 message), inr (p.memory refl));
}

pub says_nothing : (s : SinkState) → Says [] s s
says_nothing s = record { said = []; written = appended_nothing s.written; whole = inl refl }
