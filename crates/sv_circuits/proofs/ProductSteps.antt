-- Rows of a product and their sum, as loops make them.
use Rattle.std.proofs.Common.{◌≡◌, ℕ, suc, ◌-◌, ◌≤◌, ◌<◌, ℤ, List, [], ◌∷◌, ◌++◌, map, length, take}
use Rattle.std.proofs.Common.{sym, ap, ◌∙◌, subst, arith}
use Rattle.std.proofs.lemmas.List.{append-nil}
use Rattle.sv_gates.specs.Extending.{Begins}
use Rattle.sv_gates.proofs.ExtendingLaws.{begins_trans}
use Rattle.sv_gates.specs.Formulas.{Formula}
use Rattle.std.proofs.lemmas.List.{length-append}
use Rattle.sv_gates.specs.Gates.{and_gate, false_literal}
use Rattle.sv_circuits.specs.Words.{Word, made_in_turn}
use Rattle.sv_circuits.specs.Circuits.{IsWord}
use Rattle.sv_circuits.specs.Rows.{AreWords}
use Rattle.sv_circuits.specs.Operators.{sum_word, product_row, product_rows, total_from, total_word, product_word}
use Rattle.sv_circuits.proofs.WordKeeps.{onto, step_behind, word_up}
use Rattle.sv_circuits.proofs.SumSteps.{sum_grows}

-- each bit of a word and one literal
abbrev pub masked : (b : ℤ) → Word → Formula → Formula × Word
masked b xs f = made_in_turn (map (λ a. and_gate a b) xs) f

pub masked_grows : (b : ℤ) (xs : Word) (f : Formula) → f.variables ≤ ((masked b xs f).0).variables
masked_grows b [] f = omega arith
masked_grows b (x ∷ xs) f =
    let more = masked_grows b xs (and_gate x b f).0 in omega (arith, more)

pub masked_step : (b : ℤ) (xs more front : Word) (a g : ℤ) (now later : Formula) →
    xs ≡ a ∷ more → and_gate a b now ≡ (later, g) →
    onto front (masked b xs now) ≡ onto (front ++ g ∷ []) (masked b more later)
masked_step b xs more front a g now later ex e =
    ap (λ z. onto front (masked b z now)) ex
    ∙ step_behind front (λ z. z) (λ f. masked b more f) (and_gate a b now) later g e

pub masked_full : (b : ℤ) (xs more front : Word) (a : ℤ) (now : Formula) (most : ℕ) →
    xs ≡ a ∷ more → now.variables ≡ most →
    most < ((onto front (masked b xs now)).0).variables
masked_full b xs more front a now most ex h =
    let up = masked_grows b more (and_gate a b now).0 in
    subst (λ z. most < ((masked b z now).0).variables) (sym ex) (omega (arith, up, h))

pub masked_end : (b : ℤ) (xs front : Word) (now : Formula) → xs ≡ [] →
    onto front (masked b xs now) ≡ (now, front)
masked_end b xs front now e =
    ap (λ z. onto front (masked b z now)) e ∙ ap (λ z. (now, z)) (append-nil front)

-- ---- rows

pub row_grows : (a : Word) (i : ℕ) (b : ℤ) (f : Formula) →
    f.variables ≤ ((product_row a i b f).0).variables
row_grows a i b f = masked_grows b (take (length a - i) a) f

pub rows_grow : (a : Word) (i : ℕ) (bs : Word) (f : Formula) →
    f.variables ≤ ((product_rows a i bs f).0).variables
rows_grow a i [] f = omega arith
rows_grow a i (b ∷ bs) f =
    let row = product_row a i b f in
    let up = row_grows a i b f in
    let more = rows_grow a (suc i) bs row.0 in
    omega (arith, up, more)

pub words_up : (m n : ℕ) (rows : List Word) → m ≤ n → AreWords m rows → AreWords n rows
words_up m n [] h is = tt
words_up m n (row ∷ rows) h is = (word_up m n row h is.0, words_up m n rows h is.1)

pub words_push : (n : ℕ) (rows : List Word) (row : Word) → AreWords n rows → IsWord n row →
    AreWords n (rows ++ row ∷ [])
words_push n [] row is last = (last, tt)
words_push n (first ∷ rows) row is last = (is.0, words_push n rows row is.1 last)

pub record RowsAt (whole : Formula × List Word) (old now : Formula) (a bs : Word)
    (rows : List Word) : Type 0 where
  pub made : whole ≡ (
    (product_rows a (length rows) bs now).0,
    rows ++ (product_rows a (length rows) bs now).1,
  )
  pub word : IsWord now.variables a
  pub left : IsWord now.variables bs
  pub done : AreWords now.variables rows
  pub begins : Begins old now

pub rows_more : (whole : Formula × List Word) (old now later : Formula) (a bs more : Word)
    (rows : List Word) (row : Word) (b : ℤ) → RowsAt whole old now a bs rows → bs ≡ b ∷ more →
    product_row a (length rows) b now ≡ (later, row) → Begins now later →
    IsWord later.variables row → RowsAt whole old later a more (rows ++ row ∷ [])
rows_more whole old now later a bs more rows row b at eb e up is =
    let one : suc (length rows) ≡ length (rows ++ row ∷ []) =
    omega (arith, length-append rows (row ∷ [])) in
    let rest = subst (IsWord now.variables) eb at.left in
    record {
      made = at.made
          ∙ ap (λ z. (
            (product_rows a (length rows) z now).0,
            rows ++ (product_rows a (length rows) z now).1,
          )) eb
          ∙ step_behind rows (λ z. z) (λ f. product_rows a (suc (length rows)) more f)
          (product_row a (length rows) b now) later row e
          ∙ ap (λ z. (
            (product_rows a z more later).0,
            (rows ++ row ∷ []) ++ (product_rows a z more later).1,
          )) one;
      word = word_up now.variables later.variables a up.grows at.word;
      left = word_up now.variables later.variables more up.grows rest.1;
      done = words_push later.variables rows row
          (words_up now.variables later.variables rows up.grows at.done) is;
      begins = begins_trans old now later at.begins up;
    }

pub rows_full : (whole : Formula × List Word) (old now : Formula) (a bs more : Word)
    (rows : List Word) (b : ℤ) (most : ℕ) → RowsAt whole old now a bs rows → bs ≡ b ∷ more →
    most < ((product_row a (length rows) b now).0).variables → most < (whole.0).variables
rows_full whole old now a bs more rows b most at eb h =
    let row = product_row a (length rows) b now in
    let up = rows_grow a (suc (length rows)) more row.0 in
    subst (λ (z : Formula × List Word). most < (z.0).variables) (sym at.made)
    (subst (λ z. most < ((product_rows a (length rows) z now).0).variables) (sym eb)
    (omega (arith, h, up)))

pub rows_end : (whole : Formula × List Word) (old now : Formula) (a bs : Word)
    (rows : List Word) → RowsAt whole old now a bs rows → bs ≡ [] → whole ≡ (now, rows)
rows_end whole old now a bs rows at e =
    at.made
    ∙ ap (λ z. (
      (product_rows a (length rows) z now).0,
      rows ++ (product_rows a (length rows) z now).1,
    )) e
    ∙ ap (λ z. (now, z)) (append-nil rows)

-- ---- the total

pub total_grows : (total : Word) (rows : List Word) (f : Formula) →
    f.variables ≤ ((total_from total rows f).0).variables
total_grows total [] f = omega arith
total_grows total (row ∷ rows) f =
    let made = sum_word total row false_literal f in
    let up = sum_grows total row false_literal f in
    let more = total_grows made.1 rows made.0 in
    omega (arith, up, more)

pub record TotalAt (whole : Formula × Word) (old now : Formula) (total : Word)
    (rows : List Word) : Type 0 where
  pub made : whole ≡ total_from total rows now
  pub word : IsWord now.variables total
  pub left : AreWords now.variables rows
  pub begins : Begins old now

pub total_more : (whole : Formula × Word) (old now later : Formula) (total row next : Word)
    (rows more : List Word) → TotalAt whole old now total rows → rows ≡ row ∷ more →
    sum_word total row false_literal now ≡ (later, next) → Begins now later →
    IsWord later.variables next → TotalAt whole old later next more
total_more whole old now later total row next rows more at er e up is =
    let rest = subst (AreWords now.variables) er at.left in
    record {
      made = at.made ∙ ap (λ z. total_from total z now) er
          ∙ ap (λ (z : Formula × Word). total_from z.1 more z.0) e;
      word = is;
      left = words_up now.variables later.variables more up.grows rest.1;
      begins = begins_trans old now later at.begins up;
    }

pub total_full : (whole : Formula × Word) (old now : Formula) (total row : Word)
    (rows more : List Word) (most : ℕ) → TotalAt whole old now total rows → rows ≡ row ∷ more →
    most < ((sum_word total row false_literal now).0).variables → most < (whole.0).variables
total_full whole old now total row rows more most at er h =
    let made = sum_word total row false_literal now in
    let up = total_grows made.1 more made.0 in
    subst (λ (z : Formula × Word). most < (z.0).variables) (sym at.made)
    (subst (λ z. most < ((total_from total z now).0).variables) (sym er) (omega (arith, h, up)))

-- ---- the product

pub total_word_grows : (rows : List Word) (f : Formula) →
    f.variables ≤ ((total_word rows f).0).variables
total_word_grows [] f = omega arith
total_word_grows (row ∷ rows) f = total_grows row rows f

pub product_full : (a b : Word) (f : Formula) (most : ℕ) →
    most < ((product_rows a 0 b f).0).variables → most < ((product_word a b f).0).variables
product_full a b f most h =
    let rows = product_rows a 0 b f in
    let up = total_word_grows rows.1 rows.0 in
    omega (arith, h, up)
