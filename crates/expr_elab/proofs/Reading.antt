-- What is built names bits of the scope alone.
use Rattle.std.proofs.Common.{◌≡◌, ℕ, zero, suc, max, nat_eq, Bool, true, false, not, ◌&&◌, ◌||◌, cond, ◌⊎◌, inl, inr, List, [], ◌∷◌, ◌++◌, Option, Some, None, refl, sym, ap, ◌∙◌, subst}
use Rattle.std.specs.Prelude.{All, IfSome, option_map}
use Rattle.std.specs.Map.{lookup}
use Rattle.std.specs.Str.{bytes_eq}
use Rattle.std.proofs.lemmas.Bool.{eqb-true}
use Rattle.std.proofs.lemmas.Bool.Decides.{Decides-eqb}
use Rattle.std.proofs.lemmas.List.Elements.{All-nil, All-cons, All-head, All-tail, All-append, All-weaker}
use denote.Hole.Carrier.{hidden}
use mathlib.Core.Former.{Count}
use Rattle.vlog_syntax.specs.declared.expr.Expr as tree
use Rattle.vlog_syntax.specs.declared.expr.Select as tree_select
use Rattle.vlog_syntax.specs.declared.expr.UnaryOp as tree_unary
use Rattle.vlog_syntax.specs.declared.expr.UnaryOp.TheVariants as unary
use Rattle.vlog_tokens.specs.declared.number.Number.{Number}
use Rattle.std.specs.List.{list_any}
use Rattle.vlog_tokens.specs.Bytes.{is_open}
use Rattle.vlog_tokens.specs.Numbers.{number_of}
use Rattle.bit_exprs.specs.declared.forms.Expr.{Expr, Select, Unary, Binary, Choose, Logical, Row_of-Expr, end_of-Expr, more_of-Expr, items-the_row-Expr, items_hidden-the_row-Expr-1}
use Rattle.bit_exprs.specs.declared.forms.Expr.TheVariants.{Const, Read, Select', Unary', Binary', Choose', Logical'}
use Rattle.bit_exprs.specs.declared.forms.Expr.TheBlock.{hidden-the_row-Expr-0}
use Rattle.bit_exprs.specs.declared.forms.UnaryOp.{UnaryOp}
use Rattle.bit_exprs.specs.declared.forms.UnaryOp.TheVariants as one
use Rattle.bit_exprs.specs.declared.forms.BinaryOp.{BinaryOp}
use Rattle.bit_exprs.specs.declared.forms.BinaryOp.TheVariants.{Join}
use Rattle.bit_exprs.specs.declared.forms.Window.{Window}
use Rattle.bit_exprs.specs.Named.{among, reads, any_reads}
use Rattle.expr_elab.specs.declared.vectors.Vector.{Vector}
use Rattle.expr_elab.specs.declared.built.Built.{Built}
use Rattle.expr_elab.specs.declared.built.Fixed.{Fixed}
use Rattle.expr_elab.specs.declared.built.UnaryPassing.{UnaryPassing}
use Rattle.expr_elab.specs.declared.built.UnaryPassing.TheVariants.{On, Anew}
use Rattle.expr_elab.specs.declared.built.UnaryPassing.TheVariants as one_passing
use Rattle.expr_elab.specs.declared.built.BinaryPassing.{BinaryPassing}
use Rattle.expr_elab.specs.declared.built.BinaryPassing.TheVariants.{Both, Left}
use Rattle.expr_elab.specs.declared.built.BinaryPassing.TheVariants as two_passing
use Rattle.expr_elab.specs.declared.built.Picked.{Picked}
use Rattle.expr_elab.specs.declared.built.Choice.{Choice}
use Rattle.expr_elab.specs.Formed.{OfEach}
use Rattle.expr_elab.specs.declared.built.RowOp.{RowOp}
use Rattle.expr_elab.specs.declared.built.RowOp.TheVariants.{InContext, Compares, Shifts, Logical as LogicalOp, Divides}
use Rattle.expr_elab.specs.declared.built.Row.{Row}
use Rattle.expr_elab.specs.declared.built.Row.TheVariants.{One, Logical as LogicalRow}
use Rattle.expr_elab.specs.Options.{and_then}
use Rattle.expr_elab.specs.Vectors.{Scope, bits_of, vector_of, names}
use Rattle.expr_elab.specs.Contexts.{unary_passing, binary_passing, by_unary, by_binary, pushed, operand_pushed, brought}
use Rattle.expr_elab.specs.Numbers.{constant, plain_number, number_built, word_with, fixed}
use Rattle.expr_elab.specs.Operators.{unary_built, common_width, common_sign, joined_in_context, row_op, goes_on, one_more, row_built, joined, beside}
use Rattle.expr_elab.specs.Selects.{bit_named, bits_named, bit_read, joined_to, read_of, select_of}
use Rattle.expr_elab.specs.Elaboration.{built_of, picked_of, at_least, assigned_of}
use Rattle.expr_elab.proofs.Choices.{mapped, chained, if_so, anything}
use Rattle.expr_elab.proofs.Inside.{named_there, AreSo, all_so}
use Rattle.expr_elab.proofs.Every.{Kept, every_built, each_picked}

pub one_of : (a b : Bool) → (a || b) ≡ true → (a ≡ true) ⊎ (b ≡ true)
one_of true b e = inl refl
one_of false b e = inr e

later : (s t : Bool) → t ≡ true → (s || t) ≡ true
later true t h = refl
later false t h = h

only : (a : Bool) → (a || false) ≡ a
only true = refl
only false = refl

-- ---- bits of a list

among_all : (P : ℕ → Type 0) (bits : List ℕ) (b : ℕ) → All P bits → among bits b ≡ true → P b
among_all P [] b h e = cc
among_all P (x ∷ xs) b h e = by (one_of (nat_eq x b) (among xs b) e) (among_all P xs b (All-tail P x xs h))
  where
    by : (nat_eq x b ≡ true) ⊎ (among xs b ≡ true) → (among xs b ≡ true → P b) → P b
    by (inl s) rest = subst P (eqb-true x b s) (All-head P x xs h)
    by (inr r) rest = rest r

among_self : (xs : List ℕ) → All (λ b. among xs b ≡ true) xs
among_self [] = All-nil (λ b. among [] b ≡ true)
among_self (x ∷ xs) =
    All-cons (λ b. among (x ∷ xs) b ≡ true) x xs (ap (λ t. t || among xs x) ((Decides-eqb x x).1 refl))
    (All-weaker (λ b. among xs b ≡ true) (λ b. among (x ∷ xs) b ≡ true) (λ b e. later (nat_eq x b) (among xs b) e) xs (among_self xs))

-- ---- a context changes nothing in what is read

module _ (w : ℕ) (s : Bool) (b : ℕ) where
  extended : (e : Expr) → reads (Unary (one.Extend w s) e) b ≡ reads e b
  unfolding hidden-the_row-Expr-0 hidden
  extended e = only (reads e b)

  by_one : (k : UnaryPassing) (r : Bool) (x y z : Expr) → reads x b ≡ r → reads y b ≡ r → reads z b ≡ r → reads (by_unary k x y z) b ≡ r
  by_one On r x y z hx hy hz = hx
  by_one Anew r x y z hx hy hz = hy
  by_one one_passing.Ends r x y z hx hy hz = hz

  by_two : (k : BinaryPassing) (r : Bool) (x y z : Expr) → reads x b ≡ r → reads y b ≡ r → reads z b ≡ r → reads (by_binary k x y z) b ≡ r
  by_two Both r x y z hx hy hz = hx
  by_two Left r x y z hx hy hz = hy
  by_two two_passing.Ends r x y z hx hy hz = hz

  mutual
    pushed_reads : (e : Expr) → reads (pushed w s e) b ≡ reads e b
    pushed_reads (Const word signed) = extended (Const word signed)
    pushed_reads (Read bits) = extended (Read bits)
    pushed_reads (Select' vector window p index) = extended (Select' vector window p index)
    pushed_reads (Unary' op p a) =
        by_one (unary_passing op) (any_reads a b) (Unary' op p (operand_pushed w s a)) (Unary' (one.Extend w s) p a) (Unary (one.Extend w s) (Unary' op p a)) (operand_reads a) refl (extended (Unary' op p a))
    pushed_reads (Binary' op p x q y) =
        by_two (binary_passing op) (any_reads x b || any_reads y b) (Binary' op p (operand_pushed w s x) q (operand_pushed w s y)) (Binary' op p (operand_pushed w s x) q y) (Unary (one.Extend w s) (Binary' op p x q y))
        (λ j. operand_reads x j || operand_reads y j) (λ j. operand_reads x j || any_reads y b) (extended (Binary' op p x q y))
    pushed_reads (Choose' p test q x r y) = λ j. any_reads test b || (operand_reads x j || operand_reads y j)
    pushed_reads (Logical' and chain shape all) = extended (Logical' and chain shape all)

    operand_reads : {m : _} (a : Row_of-Expr m) → any_reads (operand_pushed w s a) b ≡ any_reads a b
    operand_reads end_of-Expr = refl
    operand_reads (more_of-Expr e rest) = ap (λ t. t || any_reads rest b) (pushed_reads e)

-- ---- what operators read

module _ (P : ℕ → Type 0) where
  abbrev pub Reads : Expr → Type 0
  Reads e = (b : ℕ) → reads e b ≡ true → P b

  read_bits : (bits : List ℕ) → All P bits → Reads (Read bits)
  read_bits bits h b e = among_all P bits b h e

  read_select : (vector : List ℕ) (window : Window) (e : Expr) → All P vector → Reads e → Reads (Select vector window e)
  unfolding hidden-the_row-Expr-0 hidden
  read_select vector window e h f b t = by (one_of (among vector b) (reads e b || false) t)
    where
      by : (among vector b ≡ true) ⊎ ((reads e b || false) ≡ true) → P b
      by (inl s) = among_all P vector b h s
      by (inr r) = f b (sym (only (reads e b)) ∙ r)

  read_unary : (op : UnaryOp) (e : Expr) → Reads e → Reads (Unary op e)
  unfolding hidden-the_row-Expr-0 hidden
  read_unary op e f b t = f b (sym (only (reads e b)) ∙ t)

  read_binary : (op : BinaryOp) (x y : Expr) → Reads x → Reads y → Reads (Binary op x y)
  unfolding hidden-the_row-Expr-0 hidden
  read_binary op x y f g b t = by (one_of (reads x b || false) (reads y b || false) t)
    where
      by : ((reads x b || false) ≡ true) ⊎ ((reads y b || false) ≡ true) → P b
      by (inl s) = f b (sym (only (reads x b)) ∙ s)
      by (inr r) = g b (sym (only (reads y b)) ∙ r)

  read_choose : (c x y : Expr) → Reads c → Reads x → Reads y → Reads (Choose c x y)
  unfolding hidden-the_row-Expr-0 hidden
  read_choose c x y h f g b t = by (one_of (reads c b || false) ((reads x b || false) || (reads y b || false)) t)
    where
      arms : ((reads x b || false) ≡ true) ⊎ ((reads y b || false) ≡ true) → P b
      arms (inl s) = f b (sym (only (reads x b)) ∙ s)
      arms (inr r) = g b (sym (only (reads y b)) ∙ r)

      by : ((reads c b || false) ≡ true) ⊎ (((reads x b || false) || (reads y b || false)) ≡ true) → P b
      by (inl s) = h b (sym (only (reads c b)) ∙ s)
      by (inr r) = arms (one_of (reads x b || false) (reads y b || false) r)

  abbrev row_of : Expr → (m : Count) × Row_of-Expr m
  row_of (Logical' and chain shape row) = (_, row)
  row_of _ = (_, end_of-Expr)

  read_row : (m : _) (row : Row_of-Expr m) (b : ℕ) → All Reads (items-the_row-Expr m row) → any_reads row b ≡ true → P b
  read_row m end_of-Expr b h t = cc
  read_row m (more_of-Expr e rest) b h t = by (one_of (reads e b) (any_reads rest b) t) (read_row _ rest b (All-tail Reads e (items-the_row-Expr _ rest) h))
    where
      by : (reads e b ≡ true) ⊎ (any_reads rest b ≡ true) → (any_reads rest b ≡ true → P b) → P b
      by (inl s) others = All-head Reads e (items-the_row-Expr _ rest) h b s
      by (inr r) others = others r

  read_logical : (and : Bool) (all : List Expr) → All Reads all → Reads (Logical and None all)
  read_logical and all h b t =
      let row = row_of (Logical and None all) in read_row row.0 row.1 b (subst (All Reads) (sym (items_hidden-the_row-Expr-1 all)) h) t

  read_brought : (w : ℕ) (s : Bool) (x : Built) → Reads x.expr → Reads (brought w s x)
  read_brought w s x f = by (nat_eq x.width w && cond x.signed s (not s))
    where
      by : (k : Bool) → Reads (cond k x.expr (pushed w s x.expr))
      by true = f
      by false = λ b t. f b (sym (pushed_reads w s b x.expr) ∙ t)

  -- ---- what is built of good parts

  abbrev pub ReadsBuilt : Built → Type 0
  ReadsBuilt x = Reads x.expr

  abbrev pub ReadsRow : Row → Type 0
  ReadsRow (One x) = Reads x.expr
  ReadsRow (LogicalRow and operands constant) = All Reads operands

  read_unary_built : (op : tree_unary.UnaryOp) (x : Built) → ReadsBuilt x → ReadsBuilt (unary_built op x)
  read_unary_built unary.Plus x f = f
  read_unary_built unary.Minus x f = read_unary one.Neg x.expr f
  read_unary_built unary.Not x f = read_unary one.Not x.expr f
  read_unary_built unary.LogicalNot x f = read_unary one.NotAny x.expr f
  read_unary_built unary.And x f = read_unary one.All x.expr f
  read_unary_built unary.Nand x f = read_unary one.NotAll x.expr f
  read_unary_built unary.Or x f = read_unary one.Any x.expr f
  read_unary_built unary.Nor x f = read_unary one.NotAny x.expr f
  read_unary_built unary.Xor x f = read_unary one.Odd x.expr f
  read_unary_built unary.TildeXor x f = read_unary one.NotOdd x.expr f
  read_unary_built unary.XorTilde x f = read_unary one.NotOdd x.expr f

  read_joined : (op : BinaryOp) (x y : Built) → ReadsBuilt x → ReadsBuilt y → Reads (joined_in_context op x y)
  read_joined op x y f g =
      read_binary op (brought (common_width x y) (common_sign x y) x) (brought (common_width x y) (common_sign x y) y)
      (read_brought (common_width x y) (common_sign x y) x f) (read_brought (common_width x y) (common_sign x y) y g)

  read_more : (row : Row) (op : RowOp) (y : Built) → ReadsRow row → ReadsBuilt y → IfSome (one_more row op y) ReadsRow
  read_more (One x) (InContext op) y f g = read_joined op x y f g
  read_more (One x) (Compares op) y f g = read_joined op x y f g
  read_more (One x) (Shifts op) y f g = read_binary op x.expr y.expr f g
  read_more (One x) (LogicalOp and) y f g = All-cons Reads x.expr (y.expr ∷ []) f (All-cons Reads y.expr [] g (All-nil Reads))
  read_more (One x) Divides y f g = tt
  read_more (LogicalRow and operands constant) op y f g =
      if_so ReadsRow (goes_on and op) (LogicalRow and (operands ++ y.expr ∷ []) (constant && y.constant)) (λ e. All-append Reads operands (y.expr ∷ []) f (All-cons Reads y.expr [] g (All-nil Reads)))

  read_row_built : (row : Row) → ReadsRow row → ReadsBuilt (row_built row)
  read_row_built (One x) f = f
  read_row_built (LogicalRow and operands constant) f = read_logical and operands f

  read_beside : (left : Option Built) (y : Built) → IfSome left ReadsBuilt → ReadsBuilt y → IfSome (beside left y) ReadsBuilt
  read_beside None y f g = read_unary (one.Repeat 1) y.expr g
  read_beside (Some x) y f g = if_so ReadsBuilt _ (joined _ x y) (λ e. read_binary Join x.expr y.expr f g)

  read_number : (text : List ℕ) → IfSome (number_built text) ReadsBuilt
  read_number text = by (list_any is_open text)
    where
      plain : (n : Number) → IfSome (plain_number n) ReadsBuilt
      plain n = mapped (λ w. Unit {0}) ReadsBuilt (constant n.is_signed) (λ w u b t. cc) (word_with n.width n.value) (anything (word_with n.width n.value))

      by : (b : Bool) → IfSome (cond b None (and_then plain_number (number_of text))) ReadsBuilt
      by true = tt
      by false = chained (λ n. Unit {0}) ReadsBuilt plain_number (λ n u. plain n) (number_of text) (anything (number_of text))

  read_one : (o : Option ℕ) → IfSome o P → Reads (bit_read o)
  read_one None h b t = cc
  read_one (Some c) h b t = among_all P (c ∷ []) b (All-cons P c [] h (All-nil P)) t

  read_bit_by_bit : (f : ℕ → Option ℕ) → ((i : ℕ) → IfSome (f i) P) → (k : ℕ) → Reads (joined_to f k)
  read_bit_by_bit f h zero = read_one (f 0) (h 0)
  read_bit_by_bit f h (suc k) = read_binary Join (bit_read (f (suc k))) (joined_to f k) (read_one (f (suc k)) (h (suc k))) (read_bit_by_bit f h k)

  read_selected : (bits : List ℕ) (c : Choice) (o : Option Fixed) → All P bits → Reads c.index.expr → Reads (select_of bits c o)
  read_selected bits c None h f = read_select bits c.window c.index.expr h f
  read_selected bits c (Some i) h f = by (bits_named bits c.window i) (all_so P (bit_named bits c.window i) 0 c.window.count named)
    where
      named : (k : ℕ) → IfSome (bit_named bits c.window i k) P
      named k = named_there P bits c.window i k h

      by : (o : Option (List ℕ)) → IfSome o (AreSo P c.window.count) → Reads (read_of o (bit_named bits c.window i) c.window.count)
      by (Some inside) g = read_bits inside g.1
      by None g = read_bit_by_bit (bit_named bits c.window i) named _

-- ---- bits of the scope

has_bit : (test : List ℕ → Bool) (es : Scope) (v : Vector) (b : ℕ) → lookup test es ≡ Some v → among (bits_of v) b ≡ true → names es b ≡ true
has_bit test [] v b is e = cc
has_bit test (x ∷ es) v b is e = at (test x.0) is (λ s. has_bit test es v b s e)
  where
    at : (k : Bool) → cond k (Some x.1) (lookup test es) ≡ Some v → (lookup test es ≡ Some v → names es b ≡ true) → names (x ∷ es) b ≡ true
    at true s rest = ap (λ t. t || names es b) (subst (λ o. IfSome o (λ u. among (bits_of u) b ≡ true)) (sym s) e)
    at false s rest = later (among (bits_of x.1) b) (names es b) (rest s)

module _ (scope : Scope) where
  -- a bit of some vector of the scope
  abbrev pub IsNamed : ℕ → Type 0
  IsNamed b = names scope b ≡ true

  pub vector_named : (name : List ℕ) (v : Vector) → vector_of scope name ≡ Some v → All IsNamed (bits_of v)
  vector_named name v is = All-weaker (λ b. among (bits_of v) b ≡ true) IsNamed (λ b e. has_bit (bytes_eq name) scope v b is e) (bits_of v) (among_self (bits_of v))

  naming : Kept scope (ReadsBuilt IsNamed) (ReadsRow IsNamed)
  naming = record {
    of_number = read_number IsNamed;
    of_vector = λ name v is. read_bits IsNamed (bits_of v) (vector_named name v is);
    of_select = λ name v c is g. read_selected IsNamed (bits_of v) c (fixed c.index) (vector_named name v is) g.1;
    of_unary = read_unary_built IsNamed;
    of_first = λ x g. g;
    of_more = λ row op y g h. read_more IsNamed row (row_op op) y g h;
    of_row = read_row_built IsNamed;
    of_chosen = λ test x y t g h. read_choose IsNamed test.expr (brought (common_width x y) (common_sign x y) x) (brought (common_width x y) (common_sign x y) y) t
        (read_brought IsNamed (common_width x y) (common_sign x y) x g) (read_brought IsNamed (common_width x y) (common_sign x y) y h);
    of_beside = read_beside IsNamed;
    of_repeated = λ n x some g. if_so (ReadsBuilt IsNamed) _ _ (λ e. read_unary IsNamed (one.Repeat n) x.expr g);
  }

  -- what an expression reads
  pub elaborated_reads : (e : tree.Expr) (x : Built) (b : ℕ) → built_of scope e ≡ Some x → reads x.expr b ≡ true → names scope b ≡ true
  elaborated_reads e x b is t = every_built scope (ReadsBuilt IsNamed) (ReadsRow IsNamed) naming e x is b t

  -- what the brackets of a select read
  pub picked_reads : (s : tree_select.Select) (p : Picked) → picked_of scope s ≡ Some p → OfEach (ReadsBuilt IsNamed) p
  picked_reads = each_picked scope (ReadsBuilt IsNamed) (ReadsRow IsNamed) naming

  pub assigned_reads : (width : ℕ) (e : tree.Expr) (y : Expr) (b : ℕ) → assigned_of scope width e ≡ Some y → reads y b ≡ true → names scope b ≡ true
  assigned_reads width e y b is t = by (built_of scope e) refl
    where
      by : (o : Option Built) → built_of scope e ≡ o → names scope b ≡ true
      by None s = absurd (none (sym (ap (option_map (at_least width)) s) ∙ is))
        where
          none : None ≡ Some y → ⊥
          none e = cc
      by (Some x) s =
          subst (λ o. IfSome o (λ z. (b : ℕ) → reads z b ≡ true → names scope b ≡ true)) (sym (ap (option_map (at_least width)) s) ∙ is)
          (read_brought IsNamed (max width x.width) x.signed x (λ b t. elaborated_reads e x b s t)) b t
