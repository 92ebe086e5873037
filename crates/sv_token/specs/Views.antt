-- Private: how the code goes. What its fronts say; the meaning stands in `Front` of Fronts.antt.
use Rattle.std.specs.Prelude.{◌≡◌, ℕ, ◌+◌, ◌-◌, not, ◌||◌, nat_le, if◌then◌else◌, List, [], ◌∷◌}
use Rattle.std.specs.Prelude.{length, drop, Option, Some, None, option_map, codes}
use Rattle.std.specs.Option.{option_map_or}
use Rattle.sv_token.specs.declared.fronts.OmittedForm.{OmittedForm}
use Rattle.sv_token.specs.declared.fronts.OmittedForm.TheVariants.{SystemName, Directive}
use Rattle.sv_token.specs.declared.fronts.OmittedForm.TheVariants.{EscapedName}
use Rattle.sv_token.specs.declared.fronts.OmittedForm.TheVariants.{Text, Real, FourState}
use Rattle.sv_token.specs.declared.fronts.OmittedForm.TheVariants.{CaseEquality}
use Rattle.sv_token.specs.declared.fronts.OmittedForm.TheVariants.{Power, IndexedPart, Event}
use Rattle.sv_token.specs.declared.fronts.TokenBreach.{TokenBreach}
use Rattle.sv_token.specs.declared.fronts.TokenBreach.TheVariants.{BadByte, BadNumber, OpenComment}
use Rattle.sv_token.specs.declared.fronts.TokenBreach.TheVariants.{LeftOut}
use Rattle.sv_token.specs.declared.fronts.Front.{Front as CodeFront}
use Rattle.sv_token.specs.declared.fronts.Front.TheVariants as code_front
use Rattle.sv_token.specs.Bytes.{entry}
use Rattle.sv_token.specs.declared.keywords.WordKind.{WordKind}
use Rattle.sv_token.specs.Fronts.{Front, gap, token, broken, unsupported}
use Rattle.sv_token.specs.declared.numerals.Head.{Head as CodeHead}
use Rattle.sv_token.specs.Lexemes.{lexeme_of, sign}
use Rattle.sv_token.specs.Numerals.{Head, value_in, are_digits_in, value_bound}
use Rattle.sv_token.specs.Signs.{left_out_signs, sign_of}
use Rattle.sv_token.specs.Words.{word_of}

-- the word for a form that is left out
abbrev pub form_word : OmittedForm → List ℕ
form_word SystemName = codes "system-name"
form_word Directive = codes "directive"
form_word EscapedName = codes "escaped-name"
form_word Text = codes "string"
form_word Real = codes "real"
form_word FourState = codes "four-state"
form_word CaseEquality = codes "case-equality"
form_word Power = codes "power"
form_word IndexedPart = codes "indexed-part"
form_word Event = codes "event"

-- the number of the rule that is broken
abbrev pub rule_number : TokenBreach → ℕ
rule_number BadByte = 101
rule_number BadNumber = 102
rule_number OpenComment = 103
rule_number (LeftOut form) = 104

-- the names that go with it
abbrev pub rule_names : TokenBreach → List (List ℕ)
rule_names BadByte = []
rule_names BadNumber = []
rule_names OpenComment = []
rule_names (LeftOut form) = form_word form ∷ []

-- what a front says of the bytes that it begins
abbrev pub front_of : List ℕ → CodeFront → Front
front_of bytes (code_front.Gap more) = gap more
front_of bytes (code_front.Token kind more) = token (lexeme_of bytes kind 0 (more + 1)) more
front_of bytes (code_front.Broken breach) = broken (rule_number breach) (rule_names breach)

-- the head of a literal that begins at a place of the bytes, with what stands behind it
abbrev pub head_behind : List ℕ → ℕ → CodeHead → Head
head_behind bytes start head =
    record { signed = head.signed; base = head.base; behind = drop head.length (drop start bytes) }

-- of the texts that begin with the byte, the table knows the words of the grammar, and no others
abbrev pub HasWordsFrom : ℕ → List (List ℕ × WordKind) → Type 0
HasWordsFrom first rows = (more : List ℕ) → entry rows (first ∷ more) ≡ word_of (first ∷ more)

-- the value of a literal, where its digits are digits of the base and it is not too large
abbrev pub literal_value : Option ℕ → ℕ → List ℕ → Option ℕ
literal_value size base digits =
    let value = value_in base digits in
    if not (are_digits_in base digits) || nat_le (value_bound size) value then None else Some value

-- what a text is that spells a sign
abbrev pub spelled : List ℕ → Option Front
spelled text =
    let known = option_map (λ s. token (sign s) (length text - 1)) (sign_of text) in
    option_map_or (λ form. Some (unsupported form)) (entry left_out_signs text) known
