-- A selector that keeps its length has, at a greater one, the extension of its value at its own.
use Rattle.std.proofs.Common.{◌≡◌, ℕ, ◌/◌, ◌^◌, ◌<◌, ◌≤◌, Bool, true, false, List, ⊎_elim, refl}
use Rattle.std.proofs.Common.{sym, ap, subst, ◌∙◌, arith}
use Rattle.std.specs.Prelude.{◌&&◌, ◌||◌, nat_le, if◌then◌else◌, bit_and, bit_or, bit_xor}
use Rattle.std.proofs.lemmas.Bool.{and_parts, or_cases, leb-true}
use Rattle.std.proofs.Math.Nat.{div-le_self}
use Rattle.sv_num.specs.declared.faults.Place.{Place}
use Rattle.sv_num.specs.declared.operators.BinOp.{BinOp}
use Rattle.sv_num.specs.declared.operators.BinOp.TheVariants.{Mul, Div, Rem, Add, Sub, Shl, Shr}
use Rattle.sv_num.specs.declared.operators.BinOp.TheVariants.{SignShl, SignShr, Lt, Le, Gt, Ge, Eq}
use Rattle.sv_num.specs.declared.operators.BinOp.TheVariants.{Ne, And, Xor, Xnor, Or, LogicAnd}
use Rattle.sv_num.specs.declared.operators.BinOp.TheVariants.{LogicOr}
use Rattle.sv_num.specs.declared.operators.UnOp.{UnOp}
use Rattle.sv_num.specs.declared.operators.UnOp.TheVariants as unop
use Rattle.sv_num.specs.Vectors.{is_true}
use Rattle.sv_num.specs.Parts.{extended}
use Rattle.sv_num.specs.UnaryValues.{gives_one_bit, unary_value}
use Rattle.sv_num.proofs.NumberLemmas.{shift_above}
use Rattle.sv_system.specs.System.{Environment}
use Rattle.sv_ast.specs.Scopes.{Scope, width_of, value_of}
use Rattle.sv_ast.specs.Tree.{ExpressionTree, literal, named, bit_of, part_of, unary, binary}
use Rattle.sv_ast.specs.Tree.{choice, join, replication}
use Rattle.sv_ast.specs.Values.{length_of, joined_length, signed_of, value, joined_value}
use Rattle.sv_elab_rules.specs.CaseChains.{keeps_operand, keeps_length, has_few_values}
use Rattle.sv_width.proofs.Low.{bit_low}
use Rattle.sv_elab_laws.specs.Numbers.{NumbersFit}
use Rattle.sv_elab_laws.proofs.ValuesLow.{value_low}
use Rattle.sv_elab_laws.proofs.Extensions.{unsigned_extended, extended_same, extended_twice}
use Rattle.sv_elab_laws.proofs.Extensions.{extended_and, extended_or, extended_xor}

-- what is no signed type is taken as unsigned
taken_unsigned : (s : Bool) → (s ≡ true → false ≡ true) → s ≡ false
taken_unsigned true h = absurd (cc (h refl))
taken_unsigned false h = refl

-- a value that is the same at both lengths, unsigned
stays_same : (s : Bool) (m n v : ℕ) → (s ≡ true → false ≡ true) → m ≤ n → v < 2 ^ m →
    v ≡ extended s m n v
stays_same s m n v h wider low =
    sym (unsigned_extended m n v wider low) ∙ ap (λ b. extended b m n v) (sym (taken_unsigned s h))

-- `+` alone keeps its operand
is_plus : (op : UnOp) → keeps_operand op ≡ true → op ≡ unop.Plus
is_plus unop.Plus h = refl
is_plus unop.Minus h = absurd (cc h)
is_plus unop.Invert h = absurd (cc h)
is_plus unop.LogicNot h = absurd (cc h)
is_plus unop.And h = absurd (cc h)
is_plus unop.Nand h = absurd (cc h)
is_plus unop.Or h = absurd (cc h)
is_plus unop.Nor h = absurd (cc h)
is_plus unop.Xor h = absurd (cc h)
is_plus unop.Xnor h = absurd (cc h)

unary_kept : (op : UnOp) (own m n : ℕ) (signed s kept : Bool) (f : ℕ → Bool → ℕ)
    → (gives_one_bit op || keeps_operand op && kept) ≡ true
    → (s ≡ true → (if gives_one_bit op then false else signed) ≡ true)
    → (if gives_one_bit op then 1 else own) ≤ m → m ≤ n
    → (kept ≡ true → (s ≡ true → signed ≡ true) → own ≤ m → f n s ≡ extended s m n (f m s))
    → (if gives_one_bit op then unary_value op own signed (f own signed)
    else unary_value op n s (f n s))
    ≡ extended s m n (if gives_one_bit op then unary_value op own signed (f own signed)
    else unary_value op m s (f m s))
unary_kept op own m n signed s kept f keeps signs fits wider same =
    by_kind (gives_one_bit op) refl keeps signs fits
  where
    by_kind : (one : Bool) → gives_one_bit op ≡ one → (one || keeps_operand op && kept) ≡ true
        → (s ≡ true → (if one then false else signed) ≡ true) → (if one then 1 else own) ≤ m
        → (if one then unary_value op own signed (f own signed) else unary_value op n s (f n s))
        ≡ extended s m n (if one then unary_value op own signed (f own signed)
        else unary_value op m s (f m s))
    by_kind true one keeps signs fits =
        stays_same s m n _ signs wider (bit_low op one m own signed (f own signed) fits)
    by_kind false one keeps signs fits =
        let both = and_parts (keeps_operand op) kept keeps in
        subst (λ (o : UnOp). unary_value o n s (f n s) ≡ extended s m n (unary_value o m s (f m s)))
        (sym (is_plus op both.0)) (same both.1 signs fits)

choice_kept : (t : Bool) (s : Bool) (m n an am bn bm : ℕ) → an ≡ extended s m n am
    → bn ≡ extended s m n bm
    → (if t then an else bn) ≡ extended s m n (if t then am else bm)
choice_kept true s m n an am bn bm p q = p
choice_kept false s m n an am bn bm p q = q

-- bits moved down: of an unsigned value
moved_kept : (m n x y k : ℕ) → x ≡ extended false m n y → m ≤ n → y < 2 ^ m →
    x / 2 ^ k ≡ extended false m n (y / 2 ^ k)
moved_kept m n x y k is wider low =
    let less : y / 2 ^ k ≤ y = div-le_self y (2 ^ k) in
    ap (λ z. z / 2 ^ k) (is ∙ unsigned_extended m n y wider low)
    ∙ sym (unsigned_extended m n (y / 2 ^ k) wider (omega (arith, less, low)))

module _ (scope : Scope) (environment : Environment (List ℕ))
    (fit : (n : List ℕ) → value_of (scope n) (environment n) < 2 ^ width_of (scope n)) where
  -- what the lemma says of an expression
  abbrev Keeps : ExpressionTree → Bool → ℕ → ℕ → Type 0
  Keeps e s m n =
      keeps_length s e ≡ true → (s ≡ true → signed_of scope e ≡ true) → length_of scope e ≤ m
      → value scope environment e n s ≡ extended s m n (value scope environment e m s)

  -- an unsigned expression whose value is the same at both lengths
  flat_kept : (e : ExpressionTree) (s : Bool) (m n : ℕ) → (s ≡ true → false ≡ true)
      → length_of scope e ≤ m → m ≤ n
      → value scope environment e m s ≡ extended s m n (value scope environment e m s)
  flat_kept e s m n signs fits wider =
      stays_same s m n _ signs wider (value_low scope environment e m s fits)

  module _ (p : Place) (a b : ExpressionTree) (m n : ℕ) (wider : m ≤ n) where
    abbrev both : BinOp → ExpressionTree
    both op = binary op p a b

    -- an operator that works bit by bit
    bits_kept : (f : ℕ → ℕ → ℕ) (s : Bool) → Keeps a s m n → Keeps b s m n
        → ((x y : ℕ) → x < 2 ^ m → y < 2 ^ m
        → f (extended s m n x) (extended s m n y) ≡ extended s m n (f x y))
        → (keeps_length s a && keeps_length s b) ≡ true
        → (s ≡ true → (signed_of scope a && signed_of scope b) ≡ true)
        → length_of scope a ≤ m → length_of scope b ≤ m
        → f (value scope environment a n s) (value scope environment b n s)
        ≡ extended s m n (f (value scope environment a m s) (value scope environment b m s))
    bits_kept f s first second same keeps signs left right =
        let kept = and_parts (keeps_length s a) (keeps_length s b) keeps in
        let signed = λ (h : s ≡ true). and_parts (signed_of scope a) (signed_of scope b) (signs h) in
        ap (λ z. f z (value scope environment b n s))
        (first kept.0 (λ h. (signed h).0) left)
        ∙ ap (f (extended s m n (value scope environment a m s)))
        (second kept.1 (λ h. (signed h).1) right)
        ∙ same _ _ (value_low scope environment a m s left) (value_low scope environment b m s right)

    binary_kept : (op : BinOp) (s : Bool) → Keeps a s m n → Keeps b s m n → Keeps (both op) s m n
    unfolding keeps_length value joined_value length_of joined_length signed_of
    binary_kept And s first second keeps signs fits =
        bits_kept bit_and s first second (λ x y. extended_and s m n x y wider) keeps signs
        (omega arith) (omega arith)
    binary_kept Or s first second keeps signs fits =
        bits_kept bit_or s first second (λ x y. extended_or s m n x y wider) keeps signs
        (omega arith) (omega arith)
    binary_kept Xor s first second keeps signs fits =
        bits_kept bit_xor s first second (λ x y. extended_xor s m n x y wider) keeps signs
        (omega arith) (omega arith)
    binary_kept Shr true first second keeps signs fits = absurd (cc keeps)
    binary_kept Shr false first second keeps signs fits =
        moved_kept m n _ _ _ (first keeps signs fits) wider
        (value_low scope environment a m false fits)
    binary_kept SignShr true first second keeps signs fits = absurd (cc keeps)
    binary_kept SignShr false first second keeps signs fits =
        let low = value_low scope environment a m false fits in
        shift_above n _ _ (value_low scope environment a n false (omega (arith, fits, wider)))
        ∙ moved_kept m n _ _ _ (first keeps signs fits) wider low
        ∙ ap (extended false m n) (sym (shift_above m _ _ low))
    binary_kept Lt s first second keeps signs fits = flat_kept (both Lt) s m n signs fits wider
    binary_kept Le s first second keeps signs fits = flat_kept (both Le) s m n signs fits wider
    binary_kept Gt s first second keeps signs fits = flat_kept (both Gt) s m n signs fits wider
    binary_kept Ge s first second keeps signs fits = flat_kept (both Ge) s m n signs fits wider
    binary_kept Eq s first second keeps signs fits = flat_kept (both Eq) s m n signs fits wider
    binary_kept Ne s first second keeps signs fits = flat_kept (both Ne) s m n signs fits wider
    binary_kept LogicAnd s first second keeps signs fits =
        flat_kept (both LogicAnd) s m n signs fits wider
    binary_kept LogicOr s first second keeps signs fits =
        flat_kept (both LogicOr) s m n signs fits wider
    binary_kept Mul s first second keeps signs fits = absurd (cc keeps)
    binary_kept Div s first second keeps signs fits = absurd (cc keeps)
    binary_kept Rem s first second keeps signs fits = absurd (cc keeps)
    binary_kept Add s first second keeps signs fits = absurd (cc keeps)
    binary_kept Sub s first second keeps signs fits = absurd (cc keeps)
    binary_kept Xnor s first second keeps signs fits = absurd (cc keeps)
    binary_kept Shl s first second keeps signs fits = absurd (cc keeps)
    binary_kept SignShl s first second keeps signs fits = absurd (cc keeps)

  pub kept : (e : ExpressionTree) (s : Bool) (m n : ℕ) → NumbersFit e → m ≤ n → Keeps e s m n
  unfolding keeps_length value joined_value length_of joined_length signed_of
  kept (literal l p) s m n numbers wider keeps signs fits =
      extended_twice s l.width m n l.value fits wider numbers
  kept (named v p) s m n numbers wider keeps signs fits =
      extended_twice s (width_of (scope v)) m n (value_of (scope v) (environment v)) fits
      wider (fit v)
  kept (bit_of v p i) s m n numbers wider keeps signs fits =
      flat_kept (bit_of v p i) s m n signs fits wider
  kept (part_of v p h l) s m n numbers wider keeps signs fits =
      flat_kept (part_of v p h l) s m n signs fits wider
  kept (unary op p e) s m n numbers wider keeps signs fits =
      unary_kept op (length_of scope e) m n (signed_of scope e) s (keeps_length s e)
      (value scope environment e) keeps signs fits wider
      (λ more. kept e s m n numbers wider more)
  kept (binary op p a b) s m n numbers wider keeps signs fits =
      binary_kept p a b m n wider op s (kept a s m n numbers.0 wider) (kept b s m n numbers.1 wider)
      keeps signs fits
  kept (choice p c a b) s m n numbers wider keeps signs fits =
      let both_keep = and_parts (keeps_length s a) (keeps_length s b) keeps in
      choice_kept (is_true (value scope environment c (length_of scope c) (signed_of scope c))) s m
      n _ _ _ _
      (kept a s m n numbers.1 wider both_keep.0 (λ h.
      (and_parts (signed_of scope a) (signed_of scope b) (signs h)).0) (omega arith))
      (kept b s m n numbers.2 wider both_keep.1 (λ h.
      (and_parts (signed_of scope a) (signed_of scope b) (signs h)).1) (omega arith))
  kept (join p es) s m n numbers wider keeps signs fits =
      flat_kept (join p es) s m n signs fits wider
  kept (replication p k es) s m n numbers wider keeps signs fits =
      flat_kept (replication p k es) s m n signs fits wider

  -- a selector with few values has them also at the common length
  pub kept_value : (e : ExpressionTree) (n : ℕ) (s : Bool) → NumbersFit e
      → (s ≡ true → signed_of scope e ≡ true)
      → length_of scope e ≤ n → has_few_values scope e n s ≡ true
      → value scope environment e n s ≡
      extended s (length_of scope e) n (value scope environment e (length_of scope e) s)
  kept_value e n s numbers signs fits few =
      let own : ℕ = length_of scope e in
      let parts = and_parts (nat_le own 8) (nat_le n own || keeps_length s e) few in
      ⊎_elim
      (λ short. subst (λ k.
      value scope environment e k s ≡ extended s own k (value scope environment e own s))
      (at_most own n fits (leb-true n own short))
      (sym (extended_same s own (value scope environment e own s)
      (value_low scope environment e own s (omega arith)))))
      (λ keeps. kept e s own n numbers fits keeps signs (omega arith))
      (or_cases (nat_le n own) (keeps_length s e) parts.1)
    where
      at_most : (a b : ℕ) → a ≤ b → b ≤ a → a ≡ b
      at_most a b p q = omega arith
