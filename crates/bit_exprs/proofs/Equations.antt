-- The definitions at a variant whose parts are boxed or listed.
use Rattle.std.proofs.Common.{◌≡◌, ℕ, nat_eq, Bool, true, false, cond, ◌&&◌, ◌||◌, List, ◌∷◌, map, refl, ap, ◌∙◌, subst, Option}
use Rattle.std.specs.Prelude.{All}
use Rattle.std.proofs.lemmas.List.Elements.{All-nil, All-cons}
use denote.Hole.Carrier.{hidden}
use mathlib.Core.Former.{Count}
use Rattle.word_core.specs.Words.{bit, any}
use Rattle.bit_exprs.specs.declared.forms.Expr.{Expr, Select, Unary, Binary, Choose, Logical, Row_of-Expr, end_of-Expr, more_of-Expr, items-the_row-Expr, items_hidden-the_row-Expr-1}
use Rattle.bit_exprs.specs.declared.forms.Expr.TheVariants.{Logical'}
use Rattle.bit_exprs.specs.declared.forms.Expr.TheBlock.{hidden-the_row-Expr-0}
use Rattle.bit_exprs.specs.declared.forms.UnaryOp.{UnaryOp}
use Rattle.bit_exprs.specs.declared.forms.BinaryOp.{BinaryOp}
use Rattle.bit_exprs.specs.declared.forms.Window.{Window}
use Rattle.bit_exprs.specs.Operators.{unary_width, unary_sign, unary_value, binary_width, binary_sign, binary_value}
use Rattle.bit_exprs.specs.Values.{bit_at, width_of, sign_of, value_of, values_of, selected, row_holds}
use Rattle.bit_exprs.specs.Named.{among, reads, any_reads}
use Rattle.bit_exprs.specs.Formed.{IsWidth, AreBits, Takes, TakesBoth, IsFormed, AreFormed}

pub width-Select : (vector : List ℕ) (window : Window) (e : Expr) → width_of (Select vector window e) ≡ window.count
unfolding hidden-the_row-Expr-0 hidden
width-Select vector window e = refl

pub width-Unary : (op : UnaryOp) (e : Expr) → width_of (Unary op e) ≡ unary_width op (width_of e)
unfolding hidden-the_row-Expr-0 hidden
width-Unary op e = refl

pub width-Binary : (op : BinaryOp) (e f : Expr) → width_of (Binary op e f) ≡ binary_width op (width_of e) (width_of f)
unfolding hidden-the_row-Expr-0 hidden
width-Binary op e f = refl

pub width-Choose : (c e f : Expr) → width_of (Choose c e f) ≡ width_of e
unfolding hidden-the_row-Expr-0 hidden
width-Choose c e f = refl

pub sign-Unary : (op : UnaryOp) (e : Expr) → sign_of (Unary op e) ≡ unary_sign op (sign_of e)
unfolding hidden-the_row-Expr-0 hidden
sign-Unary op e = refl

pub sign-Binary : (op : BinaryOp) (e f : Expr) → sign_of (Binary op e f) ≡ binary_sign op (sign_of e) (sign_of f)
unfolding hidden-the_row-Expr-0 hidden
sign-Binary op e f = refl

pub sign-Choose : (c e f : Expr) → sign_of (Choose c e f) ≡ (sign_of e && sign_of f)
unfolding hidden-the_row-Expr-0 hidden
sign-Choose c e f = refl

pub value-Select : (vector : List ℕ) (window : Window) (e : Expr) (v : List Bool) →
    value_of (Select vector window e) v ≡ selected window (map (bit_at v) vector) (width_of e) (sign_of e) (value_of e v)
unfolding hidden-the_row-Expr-0 hidden
value-Select vector window e v = refl

pub value-Unary : (op : UnaryOp) (e : Expr) (v : List Bool) → value_of (Unary op e) v ≡ unary_value op (width_of e) (value_of e v)
unfolding hidden-the_row-Expr-0 hidden
value-Unary op e v = refl

pub value-Binary : (op : BinaryOp) (e f : Expr) (v : List Bool) →
    value_of (Binary op e f) v ≡ binary_value op (sign_of e && sign_of f) (width_of e) (width_of f) (value_of e v) (value_of f v)
unfolding hidden-the_row-Expr-0 hidden
value-Binary op e f v = refl

pub value-Choose : (c e f : Expr) (v : List Bool) → value_of (Choose c e f) v ≡ cond (nat_eq (value_of c v) 0) (value_of f v) (value_of e v)
unfolding hidden-the_row-Expr-0 hidden
value-Choose c e f v = refl

pub formed-Select : (vector : List ℕ) (window : Window) (e : Expr) (n : ℕ) → IsFormed (Select vector window e) n → AreBits n vector × IsWidth window.count × IsFormed e n
unfolding hidden-the_row-Expr-0 hidden
formed-Select vector window e n h = h

pub formed-Unary : (op : UnaryOp) (e : Expr) (n : ℕ) → IsFormed (Unary op e) n → Takes op (width_of e) × IsFormed e n
unfolding hidden-the_row-Expr-0 hidden
formed-Unary op e n h = h

pub formed-Binary : (op : BinaryOp) (e f : Expr) (n : ℕ) → IsFormed (Binary op e f) n → TakesBoth op (width_of e) (width_of f) × IsFormed e n × IsFormed f n
unfolding hidden-the_row-Expr-0 hidden
formed-Binary op e f n h = h

pub formed-Choose : (c e f : Expr) (n : ℕ) → IsFormed (Choose c e f) n → (width_of f ≡ width_of e) × IsFormed c n × IsFormed e n × IsFormed f n
unfolding hidden-the_row-Expr-0 hidden
formed-Choose c e f n h = h

or_none : (a : Bool) → a || false ≡ a
or_none true = refl
or_none false = refl

pub reads-Select : (vector : List ℕ) (window : Window) (e : Expr) (b : ℕ) → reads (Select vector window e) b ≡ among vector b || reads e b
unfolding hidden-the_row-Expr-0 hidden
reads-Select vector window e b = ap (λ x. among vector b || x) (or_none (reads e b))

pub reads-Unary : (op : UnaryOp) (e : Expr) (b : ℕ) → reads (Unary op e) b ≡ reads e b
unfolding hidden-the_row-Expr-0 hidden
reads-Unary op e b = or_none (reads e b)

pub reads-Binary : (op : BinaryOp) (e f : Expr) (b : ℕ) → reads (Binary op e f) b ≡ reads e b || reads f b
unfolding hidden-the_row-Expr-0 hidden
reads-Binary op e f b = λ j. or_none (reads e b) j || or_none (reads f b) j

pub reads-Choose : (c e f : Expr) (b : ℕ) → reads (Choose c e f) b ≡ reads c b || (reads e b || reads f b)
unfolding hidden-the_row-Expr-0 hidden
reads-Choose c e f b = λ j. or_none (reads c b) j || (or_none (reads e b) j || or_none (reads f b) j)

-- ---- rows

abbrev row_of : Expr → (n : Count) × Row_of-Expr n
row_of (Logical' and chain shape row) = (_, row)
row_of _ = (_, end_of-Expr)

values_row : (n : _) (row : Row_of-Expr n) (v : List Bool) → values_of row v ≡ map (λ e. value_of e v) (items-the_row-Expr n row)
values_row n end_of-Expr v = refl
values_row n (more_of-Expr e rest) v = ap (λ xs. value_of e v ∷ xs) (values_row _ rest v)

pub value-Logical : (and : Bool) (chain : Option ℕ) (all : List Expr) (v : List Bool) → value_of (Logical and chain all) v ≡ bit (row_holds and (map (λ e. value_of e v) all))
value-Logical and chain all v =
    let row = row_of (Logical and chain all) in
    ap (λ xs. bit (row_holds and xs)) (values_row row.0 row.1 v ∙ ap (map (λ e. value_of e v)) (items_hidden-the_row-Expr-1 all))

formed_row : (n : _) (row : Row_of-Expr n) (k : ℕ) → AreFormed row k → All (λ e. IsFormed e k) (items-the_row-Expr n row)
formed_row n end_of-Expr k h = All-nil (λ e. IsFormed e k)
formed_row n (more_of-Expr e rest) k h = All-cons (λ f. IsFormed f k) e _ h.0 (formed_row _ rest k h.1)

pub width-Logical : (and : Bool) (chain : Option ℕ) (all : List Expr) → width_of (Logical and chain all) ≡ 1
width-Logical and chain all = refl

pub formed-Logical : (and : Bool) (chain : Option ℕ) (all : List Expr) (k : ℕ) → IsFormed (Logical and chain all) k → All (λ e. IsFormed e k) all
formed-Logical and chain all k h =
    let row = row_of (Logical and chain all) in
    subst (All (λ e. IsFormed e k)) (items_hidden-the_row-Expr-1 all) (formed_row row.0 row.1 k h)

reads_row : (n : _) (row : Row_of-Expr n) (b : ℕ) → any_reads row b ≡ any (map (λ e. reads e b) (items-the_row-Expr n row))
reads_row n end_of-Expr b = refl
reads_row n (more_of-Expr e rest) b = ap (λ x. reads e b || x) (reads_row _ rest b)

pub reads-Logical : (and : Bool) (chain : Option ℕ) (all : List Expr) (b : ℕ) → reads (Logical and chain all) b ≡ any (map (λ e. reads e b) all)
reads-Logical and chain all b =
    let row = row_of (Logical and chain all) in
    reads_row row.0 row.1 b ∙ ap (λ es. any (map (λ e. reads e b) es)) (items_hidden-the_row-Expr-1 all)
