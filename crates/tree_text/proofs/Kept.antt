-- Tokens with the same texts spell trees that are the same but for places: rule by rule of the grammar.
use Rattle.std.proofs.Common.{◌≡◌, ℕ, List, [], ◌∷◌, Option, Some, None, map, refl, ap}
use Rattle.std.specs.Prelude.{option_map}
use Rattle.word_core.specs.declared.place.Place.{Place}
use Rattle.vlog_tokens.specs.declared.word.Word.{Word}
use Rattle.vlog_tokens.specs.Tokens.{Token}
use Rattle.vlog_tokens.specs.Words.{word_of}
use Rattle.vlog_syntax.specs.declared.expr.PartKind.{PartKind}
use Rattle.vlog_syntax.specs.declared.expr.Expr.{Expr}
use Rattle.vlog_syntax.specs.declared.expr.Expr.TheVariants as expr
use Rattle.vlog_syntax.specs.declared.stmt.Stmt.{Stmt}
use Rattle.vlog_syntax.specs.declared.stmt.Stmt.TheVariants as stmt
use Rattle.vlog_syntax.specs.declared.stmt.Target.TheVariants as target
use Rattle.vlog_syntax.specs.declared.module.NetKind.{NetKind}
use Rattle.vlog_syntax.specs.declared.module.Edge.TheVariants as edge
use Rattle.vlog_syntax.specs.declared.module.Item.TheVariants as item
use Rattle.vlog_syntax.specs.declared.module.Tree.{Tree}
use Rattle.vlog_rules.specs.declared.level.Rows.{Rows}
use Rattle.vlog_rules.specs.declared.level.Rows.TheVariants as rows
use Rattle.vlog_rules.specs.declared.level.Level.{Level}
use Rattle.vlog_rules.specs.declared.level.Level.TheVariants as level
use Rattle.vlog_rules.specs.declared.level.Sort.{Sort}
use Rattle.vlog_rules.specs.declared.level.Sort.TheVariants as sort
use Rattle.vlog_rules.specs.declared.level.Braced.{Braced}
use Rattle.vlog_rules.specs.declared.level.Braced.TheVariants as inside
use Rattle.vlog_rules.specs.Grammar as g
use Rattle.vlog_rules.specs.Grammar.{V, part_of, rules, IsSource}
use Rattle.parsing.specs.Forms.{Form, token, both, many, run, made, part, Rule, node, one_of, Stands}
use Rattle.tree_text.specs.Places.{nowhere, bare_ident, bare_expr, bare_select, bare_operand, bare_target, bare_stmt, bare_range, bare_port, bare_event, bare_item, bare_module, without_places}
use Rattle.tree_text.proofs.BareEquations.{bare_number, bare_name, bare_paren, bare_concat, bare_repeat, bare_unary, bare_row, bare_choice, bare_bit, bare_part, bare_operator, bare_named_target, bare_joined_target, bare_assign, bare_branch, bare_block}
use Rattle.tree_text.proofs.Texts.{text_of}
use Rattle.tree_text.proofs.Following as following
use Rattle.tree_text.proofs.Following.{token_follows, nothing_follows, both_follows, either_follows, many_follows, run_follows, tailed_follows, made_follows, node_follows, one_of_follows, grown_follows, part_follows}

pub worded : (t : Token) → V.word t ≡ word_of (text_of t)
worded t = refl

-- a part without its places
abbrev pub bare_part_of : (s : Sort) → part_of s → part_of s
bare_part_of (sort.Expr k) = bare_expr
bare_part_of sort.Target = bare_target
bare_part_of sort.Stmt = bare_stmt

module _ (N : (s : Sort) → ℕ → part_of s → List Token → List Token → Type 0) where
  abbrev pub S : {A E : Type 0} → Form V A → (A → E) → Type 0
  S f keep = following.Follows V (List ℕ) text_of word_of worded N f keep

  abbrev pub R : {A E : Type 0} → Rule V A → (A → E) → Type 0
  R rule keep = following.RuleFollows V (List ℕ) text_of word_of worded N rule keep

  -- ---- tokens

  a_token : {v : Word} {vs : List Word} → S (token v vs) text_of
  a_token = token_follows V (List ℕ) text_of word_of worded N

  a_pair : {A B E F : Type 0} {a : Form V A} {b : Form V B} {p : A → E} {q : B → F} → S a p → S b q → S {A = A × B} {E = E × F} (both a b) (λ x. (p x.0, q x.1))
  a_pair ha hb = both_follows V (List ℕ) text_of word_of worded N ha hb

  a_value : {A B E F : Type 0} {f : A → B} {a : Form V A} {p : A → E} {q : B → F} (make : E → F) → ((x : A) → q (f x) ≡ make (p x)) → S a p → S (made f a) q
  a_value make h ha = made_follows V (List ℕ) text_of word_of worded N make h ha

  in_front : {A E : Type 0} {v : Word} {a : Form V A} {p : A → E} → S a p → S (g.behind v a) p
  in_front ha = a_value (λ y. y.1) (λ x. refl) (a_pair a_token ha)

  at_end : {A E : Type 0} {v : Word} {a : Form V A} {p : A → E} → S a p → S (g.before a v) p
  at_end ha = a_value (λ y. y.0) (λ x. refl) (a_pair ha a_token)

  maybe_kept : {A E : Type 0} {a : Form V A} {p : A → E} → S a p → S (g.maybe a) (option_map p)
  maybe_kept ha = either_follows V (List ℕ) text_of word_of worded N (a_value Some (λ x. refl) ha) (a_value (λ x. None) (λ x. refl) (nothing_follows V (List ℕ) text_of word_of worded N))

  a_run : {A E : Type 0} {a b : Form V A} {p : A → E} → S a p → S b p → S (run a b) (map p)
  a_run ha hb = run_follows V (List ℕ) text_of word_of worded N ha hb

  any_number : {A E : Type 0} {a : Form V A} {p : A → E} → S a p → S (many a) (map p)
  any_number ha = many_follows V (List ℕ) text_of word_of worded N ha

  form_kept : {A E : Type 0} {a : Form V A} {p : A → E} → S a p → R (node a) p
  form_kept ha = node_follows V (List ℕ) text_of word_of worded N ha

  one_kept : {A E : Type 0} {a b : Rule V A} {p : A → E} → R a p → R b p → R (one_of a b) p
  one_kept ha hb = one_of_follows V (List ℕ) text_of word_of worded N ha hb

  ident_kept : S g.ident bare_ident
  unfolding g.ident
  ident_kept = a_value (λ text. record { at = nowhere; name = text }) (λ t. refl) a_token

  -- ---- parts that nest

  module _ (H : (s : Sort) → S (part s) (bare_part_of s)) where
    whole_kept : S g.whole bare_expr
    whole_kept = H (sort.Expr level.Whole)

    number_kept : S g.number bare_expr
    unfolding g.number
    number_kept = a_value (λ text. expr.Number (record { at = nowhere; text = text })) (λ t. bare_number (record { at = t.at; text = t.text })) a_token

    abbrev bare_second : PartKind × Expr → PartKind × Expr
    bare_second x = (x.0, bare_expr x.1)

    second_kept : S g.second (option_map bare_second)
    unfolding g.second
    second_kept = maybe_kept (a_pair (a_value {q = λ k. k} (λ text. g.kind_of_part (word_of text)) (λ t. refl) a_token) whole_kept)

    select_kept : (at : Place) (x : Expr) (o : Option (PartKind × Expr)) → bare_select (g.select_of at x o) ≡ g.select_of nowhere (bare_expr x) (option_map bare_second o)
    select_kept at x None = bare_bit at x
    select_kept at x (Some y) = bare_part at x y.0 y.1

    selected_kept : S g.selected bare_select
    unfolding g.selected
    selected_kept = a_value (λ y. g.select_of nowhere y.1.0 y.1.1) (λ x. select_kept x.0.at x.1.0 x.1.1) (a_pair a_token (at_end (a_pair whole_kept second_kept)))

    name_kept : S g.name bare_expr
    unfolding g.name
    name_kept = a_value (λ y. expr.Name y.0 y.1) (λ x. bare_name x.0 x.1) (a_pair ident_kept (maybe_kept selected_kept))

    paren_kept : S g.paren bare_expr
    unfolding g.paren
    paren_kept = a_value (λ y. expr.Paren nowhere y.1) (λ x. bare_paren x.0.at x.1) (a_pair a_token (at_end whole_kept))

    comma_kept : S g.comma_expr bare_expr
    unfolding g.comma_expr
    comma_kept = in_front whole_kept

    exprs_kept : S g.exprs (map bare_expr)
    unfolding g.exprs
    exprs_kept = a_run whole_kept comma_kept

    repeated_kept : S g.repeated (map bare_expr)
    unfolding g.repeated
    repeated_kept = in_front (at_end exprs_kept)

    further_kept : S g.further (map bare_expr)
    unfolding g.further
    further_kept = any_number comma_kept

    abbrev bare_braced : Braced → Braced
    bare_braced (inside.Repeated xs) = inside.Repeated (map bare_expr xs)
    bare_braced (inside.Further xs) = inside.Further (map bare_expr xs)

    braced_kept : S g.braced bare_braced
    unfolding g.braced
    braced_kept = either_follows V (List ℕ) text_of word_of worded N (a_value inside.Repeated (λ xs. refl) repeated_kept) (a_value inside.Further (λ xs. refl) further_kept)

    brace_of_kept : (at : Place) (x : Expr) (b : Braced) → bare_expr (g.brace_of at x b) ≡ g.brace_of nowhere (bare_expr x) (bare_braced b)
    brace_of_kept at x (inside.Repeated xs) = bare_repeat at x xs
    brace_of_kept at x (inside.Further xs) = bare_concat at x xs

    brace_kept : S g.brace bare_expr
    unfolding g.brace
    brace_kept = a_value (λ y. g.brace_of nowhere y.1.0 y.1.1) (λ x. brace_of_kept x.0.at x.1.0 x.1.1) (a_pair a_token (a_pair whole_kept (at_end braced_kept)))

    primary_kept : R g.primary bare_expr
    unfolding g.primary
    primary_kept = one_kept (form_kept number_kept) (one_kept (form_kept name_kept) (one_kept (form_kept brace_kept) (form_kept paren_kept)))

    -- ---- operators

    signed_kept : S g.signed bare_expr
    unfolding g.signed
    signed_kept = a_value (λ y. expr.Unary nowhere (g.sign_of (word_of y.0)) y.1) (λ x. bare_unary x.0.at (g.sign_of (word_of x.0.text)) x.1) (a_pair a_token (H (sort.Expr level.Primary)))

    unary_kept : R g.unary bare_expr
    unfolding g.unary
    unary_kept = one_kept (form_kept signed_kept) primary_kept

    operand_kept : (k : Rows) → S (g.operand k) bare_operand
    unfolding g.operand
    operand_kept k = a_value (λ y. record { op = g.operator_of k (word_of y.0); value = y.1 }) (λ x. bare_operator (record { op = g.operator_of k (word_of x.0.text); value = x.1 })) (a_pair a_token (H (sort.Expr (g.tighter k))))

    operands_kept : (k : Rows) → S (g.operands k) (map bare_operand)
    unfolding g.operands
    operands_kept k = a_run (operand_kept k) (operand_kept k)

    one_more_kept : (k : Rows) {r : Rule V Expr} → R r bare_expr → R (g.one_more k r) bare_expr
    one_more_kept k h = grown_follows V (List ℕ) text_of word_of worded N (λ y ys. expr.Row nowhere y ys) (λ x xs. bare_row (g.starts x) x xs) h (operands_kept k)

    product_kept : R g.product bare_expr
    unfolding g.product
    product_kept = one_more_kept rows.Product unary_kept

    sum_kept : R g.sum bare_expr
    unfolding g.sum
    sum_kept = one_more_kept rows.Sum product_kept

    shift_kept : R g.shift bare_expr
    unfolding g.shift
    shift_kept = one_more_kept rows.Shift sum_kept

    order_kept : R g.order bare_expr
    unfolding g.order
    order_kept = one_more_kept rows.Order shift_kept

    equality_kept : R g.equality bare_expr
    unfolding g.equality
    equality_kept = one_more_kept rows.Equality order_kept

    conjoined_kept : R g.conjoined bare_expr
    unfolding g.conjoined
    conjoined_kept = one_more_kept rows.And equality_kept

    differing_kept : R g.differing bare_expr
    unfolding g.differing
    differing_kept = one_more_kept rows.Xor conjoined_kept

    disjoined_kept : R g.disjoined bare_expr
    unfolding g.disjoined
    disjoined_kept = one_more_kept rows.Or differing_kept

    conjunction_kept : R g.conjunction bare_expr
    unfolding g.conjunction
    conjunction_kept = one_more_kept rows.Conjunction disjoined_kept

    disjunction_kept : R g.disjunction bare_expr
    unfolding g.disjunction
    disjunction_kept = one_more_kept rows.Disjunction conjunction_kept

    row_kept : (k : Rows) → R (g.row k) bare_expr
    unfolding g.row
    row_kept rows.Product = product_kept
    row_kept rows.Sum = sum_kept
    row_kept rows.Shift = shift_kept
    row_kept rows.Order = order_kept
    row_kept rows.Equality = equality_kept
    row_kept rows.And = conjoined_kept
    row_kept rows.Xor = differing_kept
    row_kept rows.Or = disjoined_kept
    row_kept rows.Conjunction = conjunction_kept
    row_kept rows.Disjunction = disjunction_kept

    arms_kept : S {A = Expr × Expr} {E = Expr × Expr} g.arms (λ y. (bare_expr y.0, bare_expr y.1))
    unfolding g.arms
    arms_kept = a_pair (in_front whole_kept) (in_front whole_kept)

    choice_kept : R g.choice bare_expr
    unfolding g.choice
    choice_kept = grown_follows V (List ℕ) text_of word_of worded N (λ x y. expr.Choice nowhere x y.0 y.1) (λ x y. bare_choice (g.starts x) x y.0 y.1) (row_kept rows.Disjunction) arms_kept

    expr_kept : (k : Level) → R (g.expr_rules k) bare_expr
    unfolding g.expr_rules
    expr_kept level.Primary = primary_kept
    expr_kept level.Unary = unary_kept
    expr_kept (level.Row k) = row_kept k
    expr_kept level.Whole = choice_kept

    -- ---- targets

    named_target_kept : S g.named_target bare_target
    unfolding g.named_target
    named_target_kept = a_value (λ y. target.Name y.0 y.1) (λ x. bare_named_target x.0 x.1) (a_pair ident_kept (maybe_kept selected_kept))

    comma_target_kept : S g.comma_target bare_target
    unfolding g.comma_target
    comma_target_kept = in_front (H sort.Target)

    targets_kept : S g.targets (map bare_target)
    unfolding g.targets
    targets_kept = a_run (H sort.Target) comma_target_kept

    joined_target_kept : S g.joined_target bare_target
    unfolding g.joined_target
    joined_target_kept = a_value (λ y. target.Concat nowhere y.1) (λ x. bare_joined_target x.0.at x.1) (a_pair a_token (at_end targets_kept))

    target_kept : R g.target_rule bare_target
    unfolding g.target_rule
    target_kept = one_kept (form_kept named_target_kept) (form_kept joined_target_kept)

    -- ---- statements

    assign_kept : S g.assign bare_stmt
    unfolding g.assign
    assign_kept = a_value (λ y. stmt.Nonblocking nowhere y.0 y.1) (λ x. bare_assign (g.target_starts x.0) x.0 x.1) (a_pair (H sort.Target) (in_front (at_end whole_kept)))

    tested_kept : S g.tested bare_expr
    unfolding g.tested
    tested_kept = in_front (at_end whole_kept)

    other_branch_kept : S g.other_branch bare_stmt
    unfolding g.other_branch
    other_branch_kept = in_front (H sort.Stmt)

    branches_kept : S {A = Stmt × Option Stmt} {E = Stmt × Option Stmt} g.branches (λ x. (bare_stmt x.0, option_map bare_stmt x.1))
    unfolding g.branches
    branches_kept = tailed_follows V (List ℕ) text_of word_of worded N (H sort.Stmt) other_branch_kept

    branch_kept : S g.branch bare_stmt
    unfolding g.branch
    branch_kept = a_value (λ y. stmt.If nowhere y.1.0 y.1.1.0 y.1.1.1) (λ x. bare_branch x.0.at x.1.0 x.1.1.0 x.1.1.1) (a_pair a_token (a_pair tested_kept branches_kept))

    statements_kept : S g.statements (map bare_stmt)
    unfolding g.statements
    statements_kept = any_number (H sort.Stmt)

    block_kept : S g.block bare_stmt
    unfolding g.block
    block_kept = a_value (λ y. stmt.Block nowhere y.1) (λ x. bare_block x.0.at x.1) (a_pair a_token (at_end statements_kept))

    stmt_kept : R g.stmt_rule bare_stmt
    unfolding g.stmt_rule
    stmt_kept = one_kept (form_kept assign_kept) (one_kept (form_kept branch_kept) (form_kept block_kept))

    pub rule_kept : (s : Sort) → R (g.rules s) (bare_part_of s)
    unfolding g.rules
    rule_kept (sort.Expr k) = expr_kept k
    rule_kept sort.Target = target_kept
    rule_kept sort.Stmt = stmt_kept

    -- ---- ports

    range_kept : S g.range bare_range
    unfolding g.range
    range_kept = a_value (λ y. record { at = nowhere; left = y.1.0; right = y.1.1 }) (λ x. refl) (a_pair a_token (a_pair (at_end whole_kept) (at_end whole_kept)))

    net_kinds_kept : S g.net_kinds (option_map (λ k. k))
    unfolding g.net_kinds
    net_kinds_kept = maybe_kept (a_value {q = λ k. k} (λ text. g.net_kind_of (word_of text)) (λ t. refl) a_token)

    kind_kept : (k : Option NetKind) → k ≡ option_map (λ z. z) k
    kind_kept None = refl
    kind_kept (Some k) = refl

    start_value_kept : S g.start_value bare_expr
    unfolding g.start_value
    start_value_kept = in_front whole_kept

    port_kept : S g.port bare_port
    unfolding g.port
    port_kept = a_value (λ y. record { at = nowhere; direction = g.direction_of (word_of y.0); kind = y.1.0; range = y.1.1.0; name = y.1.1.1.0; value = y.1.1.1.1 })
        (λ x. ap (λ k. record { at = nowhere; direction = g.direction_of (word_of x.0.text); kind = k; range = option_map bare_range x.1.1.0; name = bare_ident x.1.1.1.0; value = option_map bare_expr x.1.1.1.1 }) (kind_kept x.1.0))
        (a_pair a_token (a_pair net_kinds_kept (a_pair (maybe_kept range_kept) (a_pair ident_kept (maybe_kept start_value_kept)))))

    comma_port_kept : S g.comma_port bare_port
    unfolding g.comma_port
    comma_port_kept = in_front port_kept

    ports_kept : S g.ports (map bare_port)
    unfolding g.ports
    ports_kept = in_front (at_end (a_run port_kept comma_port_kept))

    -- ---- processes

    event_kept : S g.event bare_event
    unfolding g.event
    event_kept = a_value (λ y. record { at = nowhere; edge = Some edge.Posedge; name = y.1 }) (λ x. refl) (a_pair a_token ident_kept)

    events_kept : S g.events (map bare_event)
    unfolding g.events
    events_kept = in_front (in_front (at_end (a_value (λ y. y ∷ []) (λ x. refl) event_kept)))

    always_kept : S g.always bare_item
    unfolding g.always
    always_kept = a_value (λ y. item.Always (record { at = nowhere; events = y.1.0; body = y.1.1 })) (λ x. refl) (a_pair a_token (a_pair events_kept (H sort.Stmt)))

    items_kept : S g.items (map bare_item)
    unfolding g.items
    items_kept = any_number always_kept

    -- ---- the text

    module_kept : S g.module_form bare_module
    unfolding g.module_form
    module_kept = a_value (λ y. record { at = nowhere; name = y.1.0; ports = y.1.1.0; items = y.1.1.1 }) (λ x. refl)
        (a_pair a_token (a_pair ident_kept (a_pair (at_end ports_kept) (at_end items_kept))))

    pub source_kept : S g.source without_places
    unfolding g.source without_places
    source_kept = a_value (λ y. record { modules = y ∷ [] }) (λ x. refl) module_kept

-- Tokens with the same texts spell a tree that is the same but for places.
pub same_texts : (l : ℕ) (tree : Tree) (ts us : List Token) → IsSource l tree ts → map text_of us ≡ map text_of ts → (other : Tree) × IsSource l other us × (without_places other ≡ without_places tree)
same_texts l tree ts us d e = (source_kept (Stands V rules) (part_follows V (List ℕ) text_of word_of worded part_of rules bare_part_of rule_kept)).other l tree ts [] us [] d e refl
