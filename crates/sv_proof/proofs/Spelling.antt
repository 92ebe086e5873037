-- The words of a step's line, read from the left: what is left to read is spelled by what is left
-- of the step.
use Rattle.std.proofs.Common.{◌≡◌, ◌≢◌, ℕ, ◌<◌, ◌≤◌, ◌^◌, ℤ, pos, unsigned_abs, List, [], ◌∷◌, ◌++◌}
use Rattle.std.proofs.Common.{refl, sym, ap, ◌∙◌, subst, ⊎_elim, inl, inr, ◌⊎◌, codes, decimal, All}
use Rattle.std.proofs.Common.{arith}
use Rattle.std.specs.Fmt.{signed_decimal}
use Rattle.std.proofs.lemmas.List.{append_assoc, append_cancel_left, flat_map_more}
use Rattle.std.proofs.lemmas.List.Elements.{All-nil, All-head, All-tail, All-push}
use Rattle.std.proofs.lemmas.Fmt.{decimal_injective}
use Rattle.std.proofs.lemmas.Bool.{cases_lt}
use Rattle.sv_clause.specs.Literals.{Ascend, IsClause}
use Rattle.sv_clause.proofs.Folding.{UpTo, up_to_push, up_to_ascends}
use Rattle.sv_proof.specs.Certificate.{word, literal_words, number_words, log_line, IsChain}
use Rattle.sv_proof.specs.Lines.{Lacks}
use Rattle.sv_proof.proofs.Splitting.{same_split, lacks_split, lacks_decimal, lacks_signed}
use Rattle.sv_proof.proofs.Splitting.{decimal_zero, zero_is, same_literal}

-- the parts of a log's line
pub log_parts : (line rest first more : List ℕ) (number steps : ℕ) → number < 2 ^ 64 →
    line ≡ codes "o " ++ rest → rest ≡ first ++ 32 ∷ more → Lacks 32 first →
    line ≡ log_line number steps → (first ≡ decimal number) × (more ≡ decimal steps)
log_parts line rest first more number steps small e f lacks l =
    let whole : rest ≡ word (decimal number) ++ decimal steps =
    append_cancel_left (codes "o ") rest (word (decimal number) ++ decimal steps) (sym e ∙ l) in
    same_split 32 first (decimal number) more (decimal steps) lacks
    (lacks_decimal 32 number (omega arith) small)
    (sym f ∙ whole ∙ append_assoc (decimal number) (32 ∷ []) (decimal steps))

pub log_no_word : (line rest : List ℕ) (number steps : ℕ) → line ≡ codes "o " ++ rest →
    Lacks 32 rest → line ≡ log_line number steps → ⊥
log_no_word line rest number steps e lacks l =
    let whole : rest ≡ word (decimal number) ++ decimal steps =
    append_cancel_left (codes "o ") rest (word (decimal number) ++ decimal steps) (sym e ∙ l) in
    lacks_split 32 (decimal number) (decimal steps) rest lacks (whole
    ∙ append_assoc (decimal number) (32 ∷ []) (decimal steps))

pub literal_words-push : (c : List ℤ) (l : ℤ) →
    literal_words (c ++ l ∷ []) ≡ literal_words c ++ word (signed_decimal l)
literal_words-push c l = sym (flat_map_more (λ literal. word (signed_decimal literal)) [] c l)

pub number_words-push : (c : List ℕ) (n : ℕ) →
    number_words (c ++ n ∷ []) ≡ number_words c ++ word (decimal n)
number_words-push c n = sym (flat_map_more (λ number. word (decimal number)) [] c n)

-- what is read so far, with the next word
with_word : (words item now line rest first more : List ℕ) → line ≡ words ++ rest →
    rest ≡ first ++ 32 ∷ more → first ≡ item → now ≡ words ++ word item → line ≡ now ++ more
with_word words item now line rest first more so_far parts is grows =
    so_far ∙ ap (λ z. words ++ z) (parts ∙ ap (λ z. z ++ 32 ∷ more) is
    ∙ sym (append_assoc item (32 ∷ []) more))
    ∙ sym (append_assoc words (word item) more)
    ∙ ap (λ z. z ++ more) (sym grows)

-- text that begins with a word goes on behind its blank
pub word_then : (w xs rest : List ℕ) → (word w ++ xs) ++ rest ≡ w ++ 32 ∷ (xs ++ rest)
word_then w xs rest = append_assoc (word w) xs rest ∙ append_assoc w (32 ∷ []) (xs ++ rest)

-- literals above a variable, the 0 behind them, and more
abbrev pub LiteralsRest : ℕ → List ℕ → Type 0
LiteralsRest above text =
    (clause : List ℤ) × (more : List ℕ) × Ascend above clause
    × (text ≡ literal_words clause ++ (word (codes "0") ++ more))

-- the first word of such text
abbrev pub FirstLiteral : ℕ → List ℕ → List ℕ → Type 0
FirstLiteral above first more =
    (first ≡ codes "0") ⊎ ((l : ℤ) × (first ≡ signed_decimal l) × (above < unsigned_abs l)
    × (unsigned_abs l < 2 ^ 31) × LiteralsRest (unsigned_abs l) more)

pub first_literal : (above : ℕ) (text first more : List ℕ) → text ≡ first ++ 32 ∷ more →
    Lacks 32 first → LiteralsRest above text → FirstLiteral above first more
first_literal above text first more e lacks ([], tail, up, is) =
    inl (same_split 32 first (codes "0") more tail lacks ((λ same. absurd (omega arith)), tt) (sym e
    ∙ is)).0
first_literal above text first more e lacks (l ∷ clause, tail, up, is) =
    let parts = same_split 32 first (signed_decimal l) more
    (literal_words clause ++ (word (codes "0") ++ tail)) lacks
    (lacks_signed 32 l (omega arith) up.1)
    (sym e ∙ is ∙ word_then (signed_decimal l) (literal_words clause) (word (codes "0") ++ tail)) in
    inr (l, parts.0, up.0, up.1, (clause, tail, up.2, parts.1))

pub literals_have_blank : (above : ℕ) (text : List ℕ) → Lacks 32 text → LiteralsRest above text → ⊥
literals_have_blank above text lacks ([], tail, up, is) =
    lacks_split 32 (codes "0") tail text lacks is
literals_have_blank above text lacks (l ∷ clause, tail, up, is) =
    lacks_split 32 (signed_decimal l) (literal_words clause ++ (word (codes "0") ++ tail)) text
    lacks (is ∙ word_then (signed_decimal l) (literal_words clause) (word (codes "0") ++ tail))

-- the literals read so far, and what is left
pub record ReadsLiterals (line : List ℕ) (clause : List ℤ) (above : ℕ) (rest : List ℕ) :
    Type 0 where
  pub so_far : line ≡ literal_words clause ++ rest
  pub up : UpTo 0 clause above
  pub back : LiteralsRest 0 line → LiteralsRest above rest

pub literals_start : (line : List ℕ) (clause : List ℤ) → clause ≡ [] →
    ReadsLiterals line clause 0 line
literals_start line clause e =
    record {
      so_far = ap (λ z. literal_words z ++ line) (sym e);
      up = subst (λ z. UpTo 0 z 0) (sym e) refl;
      back = λ r. r;
    }

module _ (line : List ℕ) (clause : List ℤ) (above : ℕ) (rest first more : List ℕ)
    (r : ReadsLiterals line clause above rest) (parts : rest ≡ first ++ 32 ∷ more)
    (lacks : Lacks 32 first) where
  next_literal : LiteralsRest 0 line → FirstLiteral above first more
  next_literal whole = first_literal above rest first more parts lacks (r.back whole)

  pub literals_stuck : ((l : ℤ) → unsigned_abs l < 2 ^ 31 → first ≡ signed_decimal l → ⊥) →
      LiteralsRest 0 line → ⊥
  literals_stuck none whole =
      ⊎_elim (λ nil. none (pos 0) (omega arith) (nil ∙ sym decimal_zero))
      (λ (l, is, up, small, more'). none l small is) (next_literal whole)

  -- the word is a literal
  pub literals_wrong : (l : ℤ) → unsigned_abs l < 2 ^ 31 → first ≡ signed_decimal l →
      0 < unsigned_abs l → unsigned_abs l ≤ above → LiteralsRest 0 line → ⊥
  literals_wrong l small is positive low whole =
      ⊎_elim
      (λ nil. let none : unsigned_abs l ≡ 0 = ap unsigned_abs (zero_is l small (sym is ∙ nil)) in
      absurd (omega arith))
      (λ (x, is', up, small', more').
      let same : unsigned_abs l ≡
      unsigned_abs x = ap unsigned_abs (same_literal l x small small' (sym is ∙ is')) in
      absurd (omega arith))
      (next_literal whole)

  pub literals_more : (l : ℤ) (now : List ℤ) → unsigned_abs l < 2 ^ 31 → first ≡ signed_decimal l →
      above < unsigned_abs l → now ≡ clause ++ l ∷ [] → ReadsLiterals line now (unsigned_abs l) more
  literals_more l now small is far e =
      record {
        so_far =
            with_word (literal_words clause) (signed_decimal l) (literal_words now) line rest first
            more r.so_far parts is (ap (λ z. literal_words z) e ∙ literal_words-push clause l);
        up =
            subst (λ z. UpTo 0 z (unsigned_abs l)) (sym e)
            (up_to_push 0 above clause l r.up far small);
        back = λ whole.
            ⊎_elim
            (λ nil. let none : unsigned_abs l ≡
            0 = ap unsigned_abs (zero_is l small (sym is ∙ nil)) in absurd (omega arith))
            (λ (x, is', up, small', more').
            subst (λ z. LiteralsRest (unsigned_abs z) more)
            (sym (same_literal l x small small' (sym is ∙ is'))) more')
            (next_literal whole);
      }

  -- the word is the 0 behind the literals
  pub literals_done : (l : ℤ) → first ≡ signed_decimal l → l ≡ pos 0 →
      line ≡ literal_words clause ++ (word (codes "0") ++ more)
  literals_done l is none =
      r.so_far ∙ ap (λ z. literal_words clause ++ z) (parts
      ∙ ap (λ z. z ++ 32 ∷ more) (is ∙ ap signed_decimal none ∙ decimal_zero))

pub literals_clause : (line : List ℕ) (clause : List ℤ) (above : ℕ) (rest : List ℕ) →
    ReadsLiterals line clause above rest → IsClause clause
literals_clause line clause above rest r = up_to_ascends 0 above clause r.up

pub literals_end : (line : List ℕ) (clause : List ℤ) (above : ℕ) (rest : List ℕ) →
    ReadsLiterals line clause above rest → Lacks 32 rest → LiteralsRest 0 line → ⊥
literals_end line clause above rest r lacks whole =
    literals_have_blank above rest lacks (r.back whole)

-- two ways to read the literals are one
pub same_literals : (m : ℕ) (c d : List ℤ) (xs ys : List ℕ) → Ascend m c → Ascend m d →
    literal_words c ++ (word (codes "0") ++ xs) ≡ literal_words d ++ (word (codes "0") ++ ys) →
    (c ≡ d) × (xs ≡ ys)
same_literals m [] [] xs ys up_c up_d e = (refl, append_cancel_left (word (codes "0")) xs ys e)
same_literals m [] (y ∷ d) xs ys up_c up_d e =
    let parts = same_split 32 (codes "0") (signed_decimal y) xs
    (literal_words d ++ (word (codes "0") ++ ys)) ((λ same. absurd (omega arith)), tt)
    (lacks_signed 32 y (omega arith) up_d.1)
    (e ∙ word_then (signed_decimal y) (literal_words d) (word (codes "0") ++ ys)) in
    let none : unsigned_abs y ≡ 0 = ap unsigned_abs (zero_is y up_d.1 (sym parts.0)) in
    let far : m < unsigned_abs y = up_d.0 in absurd (omega arith)
same_literals m (x ∷ c) [] xs ys up_c up_d e =
    let parts = same_split 32 (codes "0") (signed_decimal x) ys
    (literal_words c ++ (word (codes "0") ++ xs)) ((λ same. absurd (omega arith)), tt)
    (lacks_signed 32 x (omega arith) up_c.1)
    (sym e ∙ word_then (signed_decimal x) (literal_words c) (word (codes "0") ++ xs)) in
    let none : unsigned_abs x ≡ 0 = ap unsigned_abs (zero_is x up_c.1 (sym parts.0)) in
    let far : m < unsigned_abs x = up_c.0 in absurd (omega arith)
same_literals m (x ∷ c) (y ∷ d) xs ys up_c up_d e =
    let parts = same_split 32 (signed_decimal x) (signed_decimal y)
    (literal_words c ++ (word (codes "0") ++ xs)) (literal_words d ++ (word (codes "0") ++ ys))
    (lacks_signed 32 x (omega arith) up_c.1) (lacks_signed 32 y (omega arith) up_d.1)
    (sym (word_then (signed_decimal x) (literal_words c) (word (codes "0") ++ xs)) ∙ e
    ∙ word_then (signed_decimal y) (literal_words d) (word (codes "0") ++ ys)) in
    let head = same_literal x y up_c.1 up_d.1 parts.0 in
    let rest = same_literals (unsigned_abs x) c d xs ys up_c.2
    (subst (λ z. Ascend (unsigned_abs z) d) (sym head) up_d.2) parts.1 in
    (ap (λ z. x ∷ z) rest.0 ∙ ap (λ z. z ∷ d) head, rest.1)

-- the numbers of a chain that are left, and the 0 that ends the line; one is left at least where
-- none was read
abbrev pub ChainRest : List ℕ → List ℕ → Type 0
ChainRest read text =
    (chain : List ℕ) × All (λ number. (0 < number) × (number < 2 ^ 64)) chain
    × (text ≡ number_words chain ++ codes "0") × (read ≡ [] → chain ≢ [])

pub record ReadsChain (text : List ℕ) (chain rest : List ℕ) : Type 0 where
  pub so_far : text ≡ number_words chain ++ rest
  pub numbers : All (λ number. (0 < number) × (number < 2 ^ 64)) chain
  pub back : ChainRest [] text → ChainRest chain rest

pub chain_start : (text chain : List ℕ) → chain ≡ [] → ReadsChain text chain text
chain_start text chain e =
    record {
      so_far = ap (λ z. number_words z ++ text) (sym e);
      numbers =
          subst (All (λ number. (0 < number) × (number < 2 ^ 64))) (sym e)
          (All-nil (λ number. (0 < number) × (number < 2 ^ 64)));
      back = λ r. subst (λ z. ChainRest z text) (sym e) r;
    }

-- the first word of such text is a number
first_number : (read text first more : List ℕ) → text ≡ first ++ 32 ∷ more → Lacks 32 first
    → ChainRest read text
    → (n : ℕ) × (first ≡ decimal n) × (0 < n) × (n < 2 ^ 64) × (chain : List ℕ)
    × All (λ number. (0 < number) × (number < 2 ^ 64)) chain
    × (more ≡ number_words chain ++ codes "0")
first_number read text first more e lacks ([], each, is, some) =
    absurd (lacks_split 32 first more (codes "0") ((λ same. absurd (omega arith)), tt) (sym is ∙ e))
first_number read text first more e lacks (n ∷ chain, each, is, some) =
    let good = All-head (λ number. (0 < number) × (number < 2 ^ 64)) n chain each in
    let parts = same_split 32 first (decimal n) more (number_words chain ++ codes "0") lacks
    (lacks_decimal 32 n (omega arith) good.1) (sym e ∙ is
    ∙ word_then (decimal n) (number_words chain) (codes "0")) in (
      n,
      parts.0,
      good.0,
      good.1,
      chain,
      All-tail (λ number.
          (0 < number) × (number < 2 ^ 64)) n chain each,
      parts.1,
    )

module _ (text chain rest first more : List ℕ) (r : ReadsChain text chain rest)
    (parts : rest ≡ first ++ 32 ∷ more) (lacks : Lacks 32 first) where
  pub chain_stuck : ((n : ℕ) → n < 2 ^ 64 → first ≡ decimal n → ⊥) → ChainRest [] text → ⊥
  chain_stuck none whole =
      let (n, is, positive, small, others, each, left) = first_number chain rest first more parts
      lacks (r.back whole) in none n small is

  pub chain_zero : (n : ℕ) → first ≡ decimal n → n ≡ 0 → ChainRest [] text → ⊥
  chain_zero n is none whole =
      let (x, is', positive, small, others, each, left) =
      first_number chain rest first more parts lacks (r.back whole) in
      let same : n ≡ x = decimal_injective n x (omega arith) small (sym is ∙ is') in
      absurd (omega arith)

  pub chain_more : (n : ℕ) (now : List ℕ) → first ≡ decimal n → (n ≡ 0 → ⊥) → n < 2 ^ 64 →
      now ≡ chain ++ n ∷ [] → ReadsChain text now more
  chain_more n now is some small e =
      let positive : 0 < n = ⊎_elim (λ h. h) (λ h. absurd (some (omega arith))) (cases_lt 0 n) in
      record {
        so_far =
            with_word (number_words chain) (decimal n) (number_words now) text rest first more
            r.so_far parts is (ap (λ z. number_words z) e ∙ number_words-push chain n);
        numbers =
            subst (All (λ number. (0 < number) × (number < 2 ^ 64))) (sym e)
            (All-push (λ number.
            (0 < number) × (number < 2 ^ 64)) chain n r.numbers (positive, small));
        back = λ whole.
            let (x, is', positive', small', others, each, left) =
            first_number chain rest first more parts lacks (r.back whole) in
            (others, each, left, λ none. absurd (not_pushed chain n (sym e ∙ none)));
      }
    where
      not_pushed : (xs : List ℕ) (y : ℕ) → xs ++ y ∷ [] ≡ [] → ⊥
      not_pushed [] y f = cc
      not_pushed (x ∷ xs) y f = cc

pub chain_ends : (text chain rest : List ℕ) → ReadsChain text chain rest → Lacks 32 rest →
    ChainRest [] text → (rest ≡ codes "0") × (chain ≢ [])
chain_ends text chain rest r lacks whole = last_word (r.back whole)
  where
    last_word : ChainRest chain rest → (rest ≡ codes "0") × (chain ≢ [])
    last_word ([], each, is, some) = (is, λ none. some none refl)
    last_word (n ∷ others, each, is, some) =
        absurd (lacks_split 32 (decimal n) (number_words others ++ codes "0") rest lacks
        (is ∙ word_then (decimal n) (number_words others) (codes "0")))

pub chain_whole : (text chain : List ℕ) → IsChain chain → text ≡ number_words chain ++ codes "0" →
    ChainRest [] text
chain_whole text chain c e = (chain, c.numbers, e, λ none. c.some)
