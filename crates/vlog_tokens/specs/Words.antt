-- What a token is to the grammar, by its text.
use Rattle.std.specs.Prelude.{ℕ, Bool, ◌||◌, ◌==◌, List, [], ◌∷◌, Option, Some, None, is_some, if◌then◌else◌, codes}
use Rattle.std.specs.Str.{bytes_eq}
use Rattle.vlog_tokens.specs.declared.word.Word.{Word}
use Rattle.vlog_tokens.specs.declared.word.Word.TheVariants as w
use Rattle.vlog_tokens.specs.declared.word.Kind.{Kind}
use Rattle.vlog_tokens.specs.declared.word.Kind.TheVariants as k
use Rattle.vlog_tokens.specs.Bytes.{begins_name, is_decimal}

-- The keywords (IEEE 1364-2001 annex B), and what each of them is to the grammar. Those that no rule uses are names neither.
unfoldable pub keywords : List (List ℕ × Word)
keywords =
    (codes "module", w.Module) ∷
    (codes "endmodule", w.Endmodule) ∷
    (codes "input", w.Input) ∷
    (codes "output", w.Output) ∷
    (codes "wire", w.Wire) ∷
    (codes "reg", w.Reg) ∷
    (codes "parameter", w.Parameter) ∷
    (codes "localparam", w.Localparam) ∷
    (codes "generate", w.Generate) ∷
    (codes "endgenerate", w.Endgenerate) ∷
    (codes "integer", w.Integer) ∷
    (codes "genvar", w.Genvar) ∷
    (codes "assign", w.Assign) ∷
    (codes "always", w.Always) ∷
    (codes "for", w.For) ∷
    (codes "begin", w.Begin) ∷
    (codes "end", w.End) ∷
    (codes "if", w.If) ∷
    (codes "else", w.Else) ∷
    (codes "or", w.Or) ∷
    (codes "posedge", w.Posedge) ∷
    (codes "negedge", w.Negedge) ∷
    (codes "case", w.Case) ∷
    (codes "casez", w.Casez) ∷
    (codes "endcase", w.Endcase) ∷
    (codes "default", w.Default) ∷
    (codes "initial", w.LeftOut) ∷
    (codes "task", w.LeftOut) ∷
    (codes "function", w.LeftOut) ∷
    (codes "fork", w.LeftOut) ∷
    (codes "join", w.LeftOut) ∷
    (codes "wait", w.LeftOut) ∷
    (codes "while", w.LeftOut) ∷
    (codes "repeat", w.LeftOut) ∷
    (codes "forever", w.LeftOut) ∷
    (codes "casex", w.LeftOut) ∷
    (codes "inout", w.LeftOut) ∷
    (codes "tri", w.LeftOut) ∷
    (codes "tri0", w.LeftOut) ∷
    (codes "tri1", w.LeftOut) ∷
    (codes "supply0", w.LeftOut) ∷
    (codes "supply1", w.LeftOut) ∷
    (codes "real", w.LeftOut) ∷
    (codes "time", w.LeftOut) ∷
    (codes "event", w.LeftOut) ∷
    (codes "signed", w.LeftOut) ∷
    (codes "force", w.LeftOut) ∷
    (codes "release", w.LeftOut) ∷
    (codes "deassign", w.LeftOut) ∷
    (codes "disable", w.LeftOut) ∷
    (codes "defparam", w.LeftOut) ∷
    (codes "specify", w.LeftOut) ∷
    (codes "primitive", w.LeftOut) ∷
    []

-- The marks (IEEE 1364-2001 clause 4.1 and annex A), and what each of them is to the grammar, those that no rule uses among them.
unfoldable pub marks : List (List ℕ × Word)
marks =
    (codes "#", w.Hash) ∷
    (codes "(", w.OpenParen) ∷
    (codes ")", w.CloseParen) ∷
    (codes ",", w.Comma) ∷
    (codes ";", w.Semicolon) ∷
    (codes "=", w.Equals) ∷
    (codes "[", w.OpenBracket) ∷
    (codes "]", w.CloseBracket) ∷
    (codes ":", w.Colon) ∷
    (codes "@", w.At) ∷
    (codes "*", w.Star) ∷
    (codes ".", w.Dot) ∷
    (codes "<=", w.AtMost) ∷
    (codes "+", w.Plus) ∷
    (codes "-", w.Minus) ∷
    (codes "!", w.Exclamation) ∷
    (codes "~", w.Tilde) ∷
    (codes "&", w.Ampersand) ∷
    (codes "~&", w.TildeAmpersand) ∷
    (codes "|", w.Bar) ∷
    (codes "~|", w.TildeBar) ∷
    (codes "^", w.Caret) ∷
    (codes "~^", w.TildeCaret) ∷
    (codes "^~", w.CaretTilde) ∷
    (codes "+:", w.PlusColon) ∷
    (codes "-:", w.MinusColon) ∷
    (codes "{", w.OpenBrace) ∷
    (codes "}", w.CloseBrace) ∷
    (codes "?", w.Question) ∷
    (codes "||", w.BarBar) ∷
    (codes "&&", w.AmpersandAmpersand) ∷
    (codes "==", w.EqualsEquals) ∷
    (codes "!=", w.NotEquals) ∷
    (codes "<", w.Less) ∷
    (codes ">", w.Greater) ∷
    (codes ">=", w.AtLeast) ∷
    (codes "<<", w.ShiftLeft) ∷
    (codes ">>", w.ShiftRight) ∷
    (codes "/", w.Slash) ∷
    (codes "%", w.Percent) ∷
    (codes "===", w.LeftOut) ∷
    (codes "!==", w.LeftOut) ∷
    (codes "**", w.LeftOut) ∷
    (codes "<<<", w.LeftOut) ∷
    (codes ">>>", w.LeftOut) ∷
    (codes "->", w.LeftOut) ∷
    []

-- the first entry with this text
abbrev pub lookup : List (List ℕ × Word) → List ℕ → Option Word
lookup [] text = None
lookup (entry ∷ entries) text = if bytes_eq entry.0 text then Some entry.1 else lookup entries text

unfoldable pub keyword : List ℕ → Option Word
keyword = lookup keywords

unfoldable pub mark : List ℕ → Option Word
mark = lookup marks

-- Of the tokens that are no keyword and no mark, those that begin with a digit or `'` are numbers, those that begin as a name are names, and those
-- that begin with `$` are keywords that no rule uses.
abbrev pub begins_number : ℕ → Bool
begins_number b = is_decimal b || b == 39

abbrev pub unspelled : List ℕ → Word
unspelled [] = w.LeftOut
unspelled (b ∷ bs) = if begins_number b then w.Number else if begins_name b then w.Name else w.LeftOut

abbrev pub unspelled_kind : List ℕ → Kind
unspelled_kind [] = k.Keyword
unspelled_kind (b ∷ bs) = if begins_number b then k.Number else if begins_name b then k.Name else k.Keyword

abbrev pub or_unspelled : List ℕ → Option Word → Word
or_unspelled text (Some word) = word
or_unspelled text None = unspelled text

abbrev pub or_mark : List ℕ → Option Word → Word
or_mark text (Some word) = word
or_mark text None = or_unspelled text (mark text)

-- A keyword or a mark is what its entry says.
unfoldable pub word_of : List ℕ → Word
word_of text = or_mark text (keyword text)

-- which kind of token it is
unfoldable pub kind_of : List ℕ → Kind
kind_of text = if is_some (keyword text) then k.Keyword else if is_some (mark text) then k.Mark else unspelled_kind text
