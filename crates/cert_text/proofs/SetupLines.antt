-- Texts that are put one behind the other.
use Rattle.std.proofs.Common.{◌≡◌, ℕ, List, [], ◌++◌, sym, ap, ◌∙◌}
use Rattle.std.proofs.lemmas.List.{append_assoc, append-nil}

-- more behind a text, and the rest behind that
further : (a b l rest whole : List ℕ) → b ≡ a ++ l → whole ≡ b ++ rest → whole ≡ a ++ (l ++ rest)
further a b l rest whole one all = all ∙ ap (λ x. x ++ rest) one ∙ append_assoc a l rest

pub five_behind : (a b c d e whole l m n o p : List ℕ) → b ≡ a ++ l → c ≡ b ++ m → d ≡ c ++ n → e ≡ d ++ o → whole ≡ e ++ p →
    whole ≡ a ++ (l ++ (m ++ (n ++ (o ++ (p ++ [])))))
five_behind a b c d e whole l m n o p first second third fourth fifth =
    further a b l (m ++ (n ++ (o ++ (p ++ [])))) whole first (further b c m (n ++ (o ++ (p ++ []))) whole second (further c d n (o ++ (p ++ [])) whole third
    (further d e o (p ++ []) whole fourth (fifth ∙ ap (λ x. e ++ x) (sym (append-nil p))))))
