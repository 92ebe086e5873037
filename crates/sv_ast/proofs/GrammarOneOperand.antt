-- Operands of one class: what begins with a number, a name, a parenthesis, a brace or an operator.
use Rattle.std.proofs.Common.{◌≡◌, ℕ, ◌+◌, Bool, true, List, [], ◌∷◌, refl, sym, subst, ◌∙◌, arith}
use Rattle.std.specs.Prelude.{IsTrue, nat_eq}
use Rattle.std.proofs.lemmas.Bool.{false≢true}
use Rattle.sv_num.specs.declared.operators.BinOp.{BinOp}
use Rattle.sv_num.specs.declared.operators.BinOp.TheVariants.{Mul}
use Rattle.sv_num.specs.declared.operators.UnOp.{UnOp}
use Rattle.sv_num.specs.declared.faults.Place.{Place}
use Rattle.sv_token.specs.declared.signs.SignKind.{SignKind}
use Rattle.sv_token.specs.declared.signs.SignKind.TheVariants as signs
use Rattle.sv_token.specs.Lexemes.{Lexeme, identifier, numeral, sign, Literal, Placed}
use Rattle.sv_ast.specs.GrammarForms.{Form, ◌⨾◌, name_at, a_sign, in_brackets}
use Rattle.sv_ast.specs.GrammarGroups.{Written, literal, named, bit_of, part_of, group, unary}
use Rattle.sv_ast.specs.GrammarGroups.{binary, choice, join, replication, WrittenList, no_more}
use Rattle.sv_ast.specs.GrammarGroups.{more, precedence_of, binding}
use Rattle.sv_ast.specs.GrammarExpressions.{Limits, IsWritten, AreWritten, AreMore}
use Rattle.sv_ast.proofs.GrammarOneToken.{one_lexeme, one_sign, one_sign_at, one_name, one_number}
use Rattle.sv_ast.proofs.GrammarOneToken.{one_unary, NextIs, is_no_bracket, ends_expression}
use Rattle.sv_ast.proofs.GrammarOneToken.{next_at, next_not}

-- no binary operator and no choice
abbrev pub IsOperand : Written → Type 0
IsOperand (binary op p a b) = ⊥
IsOperand (choice p c a b) = ⊥
IsOperand w = Unit {0}

-- wherever the tokens are this and another expression of the kind, each before a lexeme that passes
-- the test, both are one
abbrev pub IsOne : (Written → Type 0) → (Lexeme → Bool) → Written → Type 0
IsOne Kind test w =
    (l k : Limits) (n m : ℕ) (v : Written) (ts r s : List Placed)
    → Kind v → IsWritten l n w ts r → IsWritten k m v ts s → NextIs test r → NextIs test s
    → (w ≡ v) × (r ≡ s)

abbrev pub IsAny : Written → Type 0
IsAny w = Unit {0}

-- ---- classes by the first token

abbrev pub class_of : Written → ℕ
class_of (literal v p) = 0
class_of (named x p) = 1
class_of (bit_of x p i) = 1
class_of (part_of x p high low) = 1
class_of (group e) = 2
class_of (join p es) = 3
class_of (replication p c es) = 3
class_of (unary op p e) = 4
class_of (binary op p a b) = 9
class_of (choice p c a b) = 9

abbrev pub class_of_lexeme : Lexeme → ℕ
class_of_lexeme (numeral v) = 0
class_of_lexeme (identifier x) = 1
class_of_lexeme (sign signs.OpenParenthesis) = 2
class_of_lexeme (sign signs.OpenBrace) = 3
class_of_lexeme (sign (signs.Operator o)) = 4
class_of_lexeme x = 5

abbrev HasClass : ℕ → List Placed → Type 0
HasClass c [] = ⊥
HasClass c (t ∷ ts) = class_of_lexeme t.lexeme ≡ c

has_class : (l : Limits) (n : ℕ) (w : Written) (ts r : List Placed) → IsOperand w →
    IsWritten l n w ts r → HasClass (class_of w) ts
has_class l n (literal v p) ts r kind is = subst (HasClass 0) (sym is) refl
has_class l n (named x p) ts r kind is = subst (HasClass 1) (sym is.1) refl
has_class l n (bit_of x p i) ts r kind is = subst (HasClass 1) (sym is.1.1) refl
has_class l n (part_of x p high low) ts r kind is = subst (HasClass 1) (sym is.1.1) refl
has_class l n (group e) ts r kind is = subst (HasClass 2) (sym is.1.1.1) refl
has_class l n (join p es) ts r kind is = subst (HasClass 3) (sym is.1.1) refl
has_class l n (replication p c es) ts r kind is = subst (HasClass 3) (sym is.1.1) refl
has_class l n (unary op p e) ts r kind is = subst (HasClass 4) (sym is.1.1.1.2) refl
has_class l n (binary op p a b) ts r kind is = absurd kind
has_class l n (choice p c a b) ts r kind is = absurd kind

one_class : (c d : ℕ) (ts : List Placed) → HasClass c ts → HasClass d ts → c ≡ d
one_class c d [] first second = absurd first
one_class c d (t ∷ ts) first second = sym first ∙ second

pub operands_of_one_class : (l k : Limits) (n m : ℕ) (w v : Written) (ts r s : List Placed)
    → IsOperand w → IsOperand v → IsWritten l n w ts r → IsWritten k m v ts s
    → class_of w ≡ class_of v
operands_of_one_class l k n m w v ts r s kind kind_too first second =
    one_class (class_of w) (class_of v) ts (has_class l n w ts r kind first)
    (has_class k m v ts s kind_too second)

pub one_literal : (x : Literal) (p : Place) → IsOne IsOperand is_no_bracket (literal x p)
one_literal x p l k n m (literal y q) ts r s kind first second ends ends_too =
    let one = one_number x y p q ts r s first second in
    let values = one.0 in let places = one.1 in (cc, one.2)
one_literal x p l k n m v ts r s kind first second ends ends_too =
    let classes : class_of (literal x p) ≡ class_of v =
    operands_of_one_class l k n m (literal x p) v ts r s tt kind first second in
    absurd (grind arith)

-- a name before a `[` is none before another token
bracket_clash : (x y : List ℕ) (p q : Place) (ts r mid rest : List Placed)
    → name_at x p ts r → name_at y q ts mid → a_sign signs.OpenBracket mid rest
    → NextIs is_no_bracket r → ⊥
bracket_clash x y p q ts r mid rest first second opens ends =
    let names = one_name x y p q ts r mid first second in
    next_not is_no_bracket (sign signs.OpenBracket) opens.0 mid rest opens.1 refl
    (subst (NextIs is_no_bracket) names.2 ends)

pub one_named : (x : List ℕ) (p : Place) → IsOne IsOperand is_no_bracket (named x p)
one_named x p l k n m (named y q) ts r s kind first second ends ends_too =
    let one = one_name x y p q ts r s first second in
    let names = one.0 in let places = one.1 in (cc, one.2)
one_named x p l k n m (bit_of y q j) ts r s kind first second ends ends_too =
    absurd (bracket_clash x y p q ts r second.0 _ first second.1 second.2.1.1 ends)
one_named x p l k n m (part_of y q h j) ts r s kind first second ends ends_too =
    absurd (bracket_clash x y p q ts r second.0 _ first second.1 second.2.1.1 ends)
one_named x p l k n m v ts r s kind first second ends ends_too =
    let classes : class_of (named x p) ≡ class_of v =
    operands_of_one_class l k n m (named x p) v ts r s tt kind first second in
    absurd (grind arith)

sign_clash : (o c : SignKind) (ts r s : List Placed) → a_sign o ts r → a_sign c ts s →
    sign o ≡ sign c
sign_clash o c ts r s first second =
    (one_lexeme (sign o) (sign c) first.0 second.0 ts r s first.1 second.1).0

-- what stands behind a sign stands behind it wherever it was read
behind_sign : (o : SignKind) (P : Form) (ts us vs ws : List Placed) → a_sign o ts us
    → a_sign o ts vs → P vs ws → P us ws
behind_sign o P ts us vs ws first second is =
    subst (λ xs. P xs ws) (sym (one_sign o ts us vs first second)) is

-- an expression between two signs
one_between : (o c : SignKind) → ends_expression (sign c) ≡ true → (e : Written)
    → IsOne IsAny ends_expression e
    → (l k : Limits) (n m : ℕ) (f : Written) (ts r s : List Placed)
    → (a_sign o ⨾ IsWritten l n e ⨾ a_sign c) ts r → (a_sign o ⨾ IsWritten k m f ⨾ a_sign c) ts s
    → (e ≡ f) × (r ≡ s)
one_between o c ends e one l k n m f ts r s first second =
    let inner =
    behind_sign o (IsWritten k m f ⨾ a_sign c) ts first.0 second.0 s first.1 second.1 second.2 in
    let same = one l k n m f first.0 first.2.0 inner.0 tt first.2.1 inner.1
    (next_at ends_expression (sign c) first.2.2.0 first.2.0 r first.2.2.1 ends)
    (next_at ends_expression (sign c) inner.2.0 inner.0 s inner.2.1 ends) in
    (same.0, one_sign c first.2.0 r s first.2.2 (subst (λ us. a_sign c us s) (sym same.1) inner.2))

-- two expressions with a colon between them, in brackets
one_span : (e f : Written) → IsOne IsAny ends_expression e → IsOne IsAny ends_expression f
    → (l k : Limits) (n m : ℕ) (g h : Written) (ts r s : List Placed)
    → in_brackets (IsWritten l n e ⨾ a_sign signs.Colon ⨾ IsWritten l n f) ts r
    → in_brackets (IsWritten k m g ⨾ a_sign signs.Colon ⨾ IsWritten k m h) ts s
    → (e ≡ g) × (f ≡ h) × (r ≡ s)
one_span e f one two l k n m g h ts r s first second =
    let others =
    behind_sign signs.OpenBracket ((IsWritten k m g ⨾ a_sign signs.Colon ⨾ IsWritten k m h)
    ⨾ a_sign signs.CloseBracket) ts first.0 second.0 s first.1 second.1 second.2 in
    let mine = first.2.1 in
    let theirs = others.1 in
    let highs = one l k n m g first.0 mine.0 theirs.0 tt mine.1 theirs.1
    (next_at ends_expression (sign signs.Colon) mine.2.1.0 mine.0 mine.2.0 mine.2.1.1 refl)
    (next_at ends_expression (sign signs.Colon) theirs.2.1.0 theirs.0 theirs.2.0 theirs.2.1.1
    refl) in
    let colons : mine.2.0 ≡ theirs.2.0 =
    one_sign signs.Colon mine.0 mine.2.0 theirs.2.0 mine.2.1
    (subst (λ us. a_sign signs.Colon us theirs.2.0) (sym highs.1) theirs.2.1) in
    let low : IsWritten k m h mine.2.0 others.0 =
    subst (λ us. IsWritten k m h us others.0) (sym colons) theirs.2.2 in
    let lows = two l k n m h mine.2.0 first.2.0 others.0 tt mine.2.2 low
    (next_at ends_expression (sign signs.CloseBracket) first.2.2.0 first.2.0 r first.2.2.1 refl)
    (next_at ends_expression (sign signs.CloseBracket) others.2.0 others.0 s others.2.1 refl) in (
      highs.0,
      lows.0,
      one_sign signs.CloseBracket first.2.0 r s first.2.2
          (subst (λ us. a_sign signs.CloseBracket us s) (sym lows.1) others.2),
    )

-- an expression that is one ends before one sign
one_end : (c d : SignKind) → ends_expression (sign c) ≡ true → ends_expression (sign d) ≡ true
    → (e : Written) → IsOne IsAny ends_expression e
    → (l k : Limits) (n m : ℕ) (f : Written) (ts r s : List Placed)
    → (IsWritten l n e ⨾ a_sign c) ts r → (IsWritten k m f ⨾ a_sign d) ts s → sign c ≡ sign d
one_end c d ends ends_too e one l k n m f ts r s first second =
    let same = one l k n m f ts first.0 second.0 tt first.1 second.1
    (next_at ends_expression (sign c) first.2.0 first.0 r first.2.1 ends)
    (next_at ends_expression (sign d) second.2.0 second.0 s second.2.1 ends_too) in
    sign_clash c d first.0 r s first.2 (subst (λ us. a_sign d us s) (sym same.1) second.2)

-- one expression in brackets is not two
span_clash : (e : Written) → IsOne IsAny ends_expression e
    → (l k : Limits) (n m : ℕ) (g h : Written) (ts r s : List Placed)
    → in_brackets (IsWritten l n e) ts r
    → in_brackets (IsWritten k m g ⨾ a_sign signs.Colon ⨾ IsWritten k m h) ts s → ⊥
span_clash e one l k n m g h ts r s first second =
    let theirs = second.2.1 in
    let clash = one_end signs.CloseBracket signs.Colon refl refl e one l k n m g first.0 r
    theirs.2.0 first.2
    (behind_sign signs.OpenBracket (IsWritten k m g ⨾ a_sign signs.Colon) ts first.0 second.0
    theirs.2.0 first.1 second.1 (theirs.0, theirs.1, theirs.2.1)) in
    cc

-- nor are two one
single_clash : (g : Written) → IsOne IsAny ends_expression g
    → (l k : Limits) (n m : ℕ) (i j : Written) (ts r s : List Placed)
    → in_brackets (IsWritten l n g ⨾ a_sign signs.Colon ⨾ IsWritten l n i) ts r
    → in_brackets (IsWritten k m j) ts s → ⊥
single_clash g one l k n m i j ts r s first second =
    let mine = first.2.1 in
    let clash = one_end signs.Colon signs.CloseBracket refl refl g one l k n m j first.0 mine.2.0 s
    (mine.0, mine.1, mine.2.1)
    (behind_sign signs.OpenBracket (IsWritten k m j ⨾ a_sign signs.CloseBracket) ts first.0 second.0
    s first.1 second.1 second.2) in
    cc

pub one_bit : (x : List ℕ) (p : Place) (i : Written) → IsOne IsAny ends_expression i →
    IsOne IsOperand is_no_bracket (bit_of x p i)
one_bit x p i one l k n m (named y q) ts r s kind first second ends ends_too =
    absurd (bracket_clash y x q p ts s first.0 _ second first.1 first.2.1.1 ends_too)
one_bit x p i one l k n m (bit_of y q j) ts r s kind first second ends ends_too =
    let names = one_name x y p q ts first.0 second.0 first.1 second.1 in
    let xs = names.0 in
    let ps = names.1 in
    let same = one_between signs.OpenBracket signs.CloseBracket refl i one l k (n + 1) (m + 1) j
    first.0 r s first.2.1
    (subst (λ us. in_brackets (IsWritten k (m + 1) j) us s) (sym names.2) second.2.1) in
    let is = same.0 in
    (cc, same.1)
one_bit x p i one l k n m (part_of y q h j) ts r s kind first second ends ends_too =
    let names = one_name x y p q ts first.0 second.0 first.1 second.1 in
    absurd (span_clash i one l k (n + 1) (m + 1) h j first.0 r s first.2.1
    (subst (λ us. in_brackets (IsWritten k (m + 1) h ⨾ a_sign signs.Colon ⨾ IsWritten k (m + 1) j)
    us s) (sym names.2) second.2.1))
one_bit x p i one l k n m v ts r s kind first second ends ends_too =
    let classes : class_of (bit_of x p i) ≡ class_of v =
    operands_of_one_class l k n m (bit_of x p i) v ts r s tt kind first second in
    absurd (grind arith)

pub one_part : (x : List ℕ) (p : Place) (g i : Written) → IsOne IsAny ends_expression g
    → IsOne IsAny ends_expression i
    → IsOne IsOperand is_no_bracket (part_of x p g i)
one_part x p g i one two l k n m (named y q) ts r s kind first second ends ends_too =
    absurd (bracket_clash y x q p ts s first.0 _ second first.1 first.2.1.1 ends_too)
one_part x p g i one two l k n m (bit_of y q j) ts r s kind first second ends ends_too =
    let names = one_name x y p q ts first.0 second.0 first.1 second.1 in
    absurd (single_clash g one l k (n + 1) (m + 1) i j first.0 r s first.2.1
    (subst (λ us. in_brackets (IsWritten k (m + 1) j) us s) (sym names.2) second.2.1))
one_part x p g i one two l k n m (part_of y q h j) ts r s kind first second ends ends_too =
    let names = one_name x y p q ts first.0 second.0 first.1 second.1 in
    let xs = names.0 in
    let ps = names.1 in
    let same = one_span g i one two l k (n + 1) (m + 1) h j first.0 r s first.2.1
    (subst (λ us. in_brackets (IsWritten k (m + 1) h ⨾ a_sign signs.Colon ⨾ IsWritten k (m + 1) j)
    us s) (sym names.2) second.2.1) in
    let gs = same.0 in
    let is = same.1 in
    (cc, same.2)
one_part x p g i one two l k n m v ts r s kind first second ends ends_too =
    let classes : class_of (part_of x p g i) ≡ class_of v =
    operands_of_one_class l k n m (part_of x p g i) v ts r s tt kind first second in
    absurd (grind arith)

pub one_group : (e : Written) → IsOne IsAny ends_expression e →
    IsOne IsOperand is_no_bracket (group e)
one_group e one l k n m (group f) ts r s kind first second ends ends_too =
    let same = one_between signs.OpenParenthesis signs.CloseParenthesis refl e one l k (n + 1)
    (m + 1) f ts r s first.1 second.1 in
    let is = same.0 in
    (cc, same.1)
one_group e one l k n m v ts r s kind first second ends ends_too =
    let classes : class_of (group e) ≡ class_of v =
    operands_of_one_class l k n m (group e) v ts r s tt kind first second in
    absurd (grind arith)

no_precedence_zero : (op : BinOp) → IsTrue (nat_eq (precedence_of op) 0) → ⊥
no_precedence_zero Mul zero = false≢true zero
no_precedence_zero _ zero = false≢true zero

pub tight_is_operand : (w : Written) → IsTrue (nat_eq (binding w) 0) → IsOperand w
tight_is_operand (binary op p a b) tight = no_precedence_zero op tight
tight_is_operand (choice p c a b) tight = false≢true tight
tight_is_operand _ tight = tt

pub one_unary_operand : (op : UnOp) (p : Place) (e : Written) → IsOne IsOperand is_no_bracket e →
    IsOne IsOperand is_no_bracket (unary op p e)
one_unary_operand op p e one l k n m (unary other q f) ts r s kind first second ends ends_too =
    let mine = first.1.1 in
    let theirs = second.1.1 in
    let tokens = one_unary op other p q ts mine.0 theirs.0 mine.1 theirs.1 in
    let ops = tokens.0 in
    let places = tokens.1 in
    let same = one l k (n + 1) (m + 1) f mine.0 r s (tight_is_operand f second.0) mine.2
    (subst (λ us. IsWritten k (m + 1) f us s) (sym tokens.2) theirs.2) ends ends_too in
    let es = same.0 in
    (cc, same.1)
one_unary_operand op p e one l k n m v ts r s kind first second ends ends_too =
    let classes : class_of (unary op p e) ≡ class_of v =
    operands_of_one_class l k n m (unary op p e) v ts r s tt kind first second in
    absurd (grind arith)

-- ---- joins and replications

abbrev pub AreOne : WrittenList → Type 0
AreOne no_more = Unit {0}
AreOne (more e es) = IsOne IsAny ends_expression e × AreOne es

-- a `}` or a `,` follows
next_of_more : (l : Limits) (n : ℕ) (es : WrittenList) (ts r x : List Placed) →
    AreMore l n es ts r → a_sign signs.CloseBrace r x → NextIs ends_expression ts
next_of_more l n no_more ts r x is close =
    subst (NextIs ends_expression) (sym is)
    (next_at ends_expression (sign signs.CloseBrace) close.0 r x close.1 refl)
next_of_more l n (more e es) ts r x is close =
    next_at ends_expression (sign signs.Comma) is.1.0 ts is.0 is.1.1 refl

-- one expression and the rest behind it, where the rest is one
one_first : (e f : Written) (es fs : WrittenList) → IsOne IsAny ends_expression e
    → (l k : Limits) (n m : ℕ) (ts r s x y : List Placed)
    → (IsWritten l n e ⨾ AreMore l n es) ts r → (IsWritten k m f ⨾ AreMore k m fs) ts s
    → a_sign signs.CloseBrace r x → a_sign signs.CloseBrace s y
    → ((us : List Placed) → AreMore l n es us r → AreMore k m fs us s → (es ≡ fs) × (r ≡ s))
    → (more e es ≡ more f fs) × (r ≡ s)
one_first e f es fs one l k n m ts r s x y first second close close_too one_rest =
    let same = one l k n m f ts first.0 second.0 tt first.1 second.1
    (next_of_more l n es first.0 r x first.2 close)
    (next_of_more k m fs second.0 s y second.2 close_too) in
    let rest = one_rest first.0 first.2 (subst (λ us. AreMore k m fs us s) (sym same.1) second.2) in
    let heads = same.0 in
    let tails = rest.0 in
    (cc, rest.1)

one_more : (es : WrittenList) → AreOne es
    → (l k : Limits) (n m : ℕ) (fs : WrittenList) (ts r s x y : List Placed)
    → AreMore l n es ts r → AreMore k m fs ts s → a_sign signs.CloseBrace r x
    → a_sign signs.CloseBrace s y → (es ≡ fs) × (r ≡ s)
one_more no_more ones l k n m no_more ts r s x y first second close close_too =
    (refl, sym first ∙ second)
one_more no_more ones l k n m (more f fs) ts r s x y first second close close_too =
    let clash = sign_clash signs.CloseBrace signs.Comma ts x second.0
    (subst (λ us. a_sign signs.CloseBrace us x) (sym first) close) second.1 in
    absurd cc
one_more (more e es) ones l k n m no_more ts r s x y first second close close_too =
    let clash = sign_clash signs.CloseBrace signs.Comma ts y first.0
    (subst (λ us. a_sign signs.CloseBrace us y) (sym second) close_too) first.1 in
    absurd cc
one_more (more e es) ones l k n m (more f fs) ts r s x y first second close close_too =
    let commas = one_sign signs.Comma ts first.0 second.0 first.1 second.1 in
    one_first e f es fs ones.0 l k n m first.0 r s x y first.2
    (subst (λ us. (IsWritten k m f ⨾ AreMore k m fs) us s) (sym commas) second.2) close close_too
    (λ us rest rest_too. one_more es ones.1 l k n m fs us r s x y rest rest_too close close_too)

one_written : (es : WrittenList) → AreOne es
    → (l k : Limits) (n m : ℕ) (fs : WrittenList) (ts r s x y : List Placed)
    → AreWritten l n es ts r → AreWritten k m fs ts s → a_sign signs.CloseBrace r x
    → a_sign signs.CloseBrace s y → (es ≡ fs) × (r ≡ s)
one_written no_more ones l k n m fs ts r s x y first second close close_too = absurd first
one_written (more e es) ones l k n m no_more ts r s x y first second close close_too = absurd second
one_written (more e es) ones l k n m (more f fs) ts r s x y first second close close_too =
    one_first e f es fs ones.0 l k n m ts r s x y first second close close_too
    (λ us rest rest_too. one_more es ones.1 l k n m fs us r s x y rest rest_too close close_too)

-- behind the first expression of a join comes no `{`
more_clash : (l : Limits) (n : ℕ) (es : WrittenList) (ts r x y : List Placed) →
    AreMore l n es ts r → a_sign signs.CloseBrace r x → a_sign signs.OpenBrace ts y → ⊥
more_clash l n no_more ts r x y is close opens =
    let clash = sign_clash signs.CloseBrace signs.OpenBrace ts x y
    (subst (λ us. a_sign signs.CloseBrace us x) (sym is) close) opens in
    cc
more_clash l n (more e es) ts r x y is close opens =
    let clash = sign_clash signs.Comma signs.OpenBrace ts is.0 y is.1 opens in
    cc

pub one_join : (p : Place) (es : WrittenList) → AreOne es →
    IsOne IsOperand is_no_bracket (join p es)
one_join p es ones l k n m (join q fs) ts r s kind first second ends ends_too =
    let mine = first.1 in
    let braces = one_sign_at signs.OpenBrace p q ts mine.0 second.1.0 mine.1 second.1.1 in
    let theirs : (AreWritten k (m + 1) fs ⨾ a_sign signs.CloseBrace) mine.0 s =
    subst (λ us. (AreWritten k (m + 1) fs ⨾ a_sign signs.CloseBrace) us s) (sym braces.1)
    second.1.2 in
    let same = one_written es ones l k (n + 1) (m + 1) fs mine.0 mine.2.0 theirs.0 r s mine.2.1
    theirs.1 mine.2.2 theirs.2 in
    let places = braces.0 in
    let lists = same.0 in (
      cc,
      one_sign signs.CloseBrace mine.2.0 r s mine.2.2
          (subst (λ us. a_sign signs.CloseBrace us s) (sym same.1) theirs.2),
    )
one_join p no_more ones l k n m (replication q c fs) ts r s kind first second ends ends_too =
    absurd first.1.2.1
one_join p (more e es) ones l k n m (replication q c fs) ts r s kind first second ends ends_too =
    let mine = first.1 in
    let braces = one_sign_at signs.OpenBrace p q ts mine.0 second.1.0 mine.1 second.1.1 in
    let theirs = second.1.2 in
    let inner = theirs.2.1.1 in
    let count : IsWritten k (m + 1) c mine.0 theirs.0 =
    subst (λ us. IsWritten k (m + 1) c us theirs.0) (sym braces.1) theirs.1 in
    let list = mine.2.1 in
    let same = ones.0 l k (n + 1) (m + 1) c mine.0 list.0 theirs.0 tt list.1 count
    (next_of_more l (n + 1) es list.0 mine.2.0 r list.2 mine.2.2)
    (next_at ends_expression (sign signs.OpenBrace) inner.1.0 theirs.0 inner.0 inner.1.1 refl) in
    absurd (more_clash l (n + 1) es list.0 mine.2.0 r inner.0 list.2 mine.2.2
    (subst (λ us. a_sign signs.OpenBrace us inner.0) (sym same.1) inner.1))
one_join p es ones l k n m v ts r s kind first second ends ends_too =
    let classes : class_of (join p es) ≡ class_of v =
    operands_of_one_class l k n m (join p es) v ts r s tt kind first second in
    absurd (grind arith)

pub one_replication : (p : Place) (c : Written) (es : WrittenList) → IsOne IsAny ends_expression c
    → AreOne es
    → IsOne IsOperand is_no_bracket (replication p c es)
one_replication p c es one ones l k n m (join q no_more) ts r s kind first second ends ends_too =
    absurd second.1.2.1
one_replication p c es one ones l k n m (join q (more f fs)) ts r s kind first second ends
    ends_too =
    let mine = first.1 in
    let braces = one_sign_at signs.OpenBrace p q ts mine.0 second.1.0 mine.1 second.1.1 in
    let inner = mine.2.2.1.1 in
    let theirs = second.1.2 in
    let list : AreWritten k (m + 1) (more f fs) mine.0 theirs.0 =
    subst (λ us. AreWritten k (m + 1) (more f fs) us theirs.0) (sym braces.1) theirs.1 in
    let same = one l k (n + 1) (m + 1) f mine.0 mine.2.0 list.0 tt mine.2.1 list.1
    (next_at ends_expression (sign signs.OpenBrace) inner.1.0 mine.2.0 inner.0 inner.1.1 refl)
    (next_of_more k (m + 1) fs list.0 theirs.0 s list.2 theirs.2) in
    absurd (more_clash k (m + 1) fs list.0 theirs.0 s inner.0 list.2 theirs.2
    (subst (λ us. a_sign signs.OpenBrace us inner.0) same.1 inner.1))
one_replication p c es one ones l k n m (replication q d fs) ts r s kind first second ends
    ends_too =
    let mine = first.1 in
    let braces = one_sign_at signs.OpenBrace p q ts mine.0 second.1.0 mine.1 second.1.1 in
    let theirs = second.1.2 in
    let count : IsWritten k (m + 1) d mine.0 theirs.0 =
    subst (λ us. IsWritten k (m + 1) d us theirs.0) (sym braces.1) theirs.1 in
    let inner = mine.2.2.1.1 in
    let inner_too = theirs.2.1.1 in
    let counts = one l k (n + 1) (m + 1) d mine.0 mine.2.0 theirs.0 tt mine.2.1 count
    (next_at ends_expression (sign signs.OpenBrace) inner.1.0 mine.2.0 inner.0 inner.1.1 refl)
    (next_at ends_expression (sign signs.OpenBrace) inner_too.1.0 theirs.0 inner_too.0 inner_too.1.1
    refl) in
    let opens = one_sign signs.OpenBrace mine.2.0 inner.0 inner_too.0 inner.1
    (subst (λ us. a_sign signs.OpenBrace us inner_too.0) (sym counts.1) inner_too.1) in
    let list : AreWritten k (m + 2) fs inner.0 inner_too.2.0 =
    subst (λ us. AreWritten k (m + 2) fs us inner_too.2.0) (sym opens) inner_too.2.1 in
    let lists = one_written es ones l k (n + 2) (m + 2) fs inner.0 inner.2.0 inner_too.2.0
    mine.2.2.0 theirs.2.0 inner.2.1 list inner.2.2 inner_too.2.2 in
    let closes = one_sign signs.CloseBrace inner.2.0 mine.2.2.0 theirs.2.0 inner.2.2
    (subst (λ us. a_sign signs.CloseBrace us theirs.2.0) (sym lists.1) inner_too.2.2) in
    let places = braces.0 in
    let heads = counts.0 in
    let tails = lists.0 in (
      cc,
      one_sign signs.CloseBrace mine.2.2.0 r s mine.2.2.2
          (subst (λ us. a_sign signs.CloseBrace us s) (sym closes) theirs.2.2),
    )
one_replication p c es one ones l k n m v ts r s kind first second ends ends_too =
    let classes : class_of (replication p c es) ≡ class_of v =
    operands_of_one_class l k n m (replication p c es) v ts r s tt kind first second in
    absurd (grind arith)
