-- A word of new variables, as a loop makes it.
use Rattle.std.proofs.Common.{◌≡◌, ℕ, zero, suc, ◌+◌, ◌-◌, ◌≤◌, ◌<◌, ℤ, [], ◌∷◌, ◌++◌, sym, ap, ◌∙◌}
use Rattle.std.proofs.Common.{refl}
use Rattle.std.proofs.Common.{subst, arith}
use Rattle.std.proofs.lemmas.List.{append-nil}
use Rattle.sv_gates.specs.Extending.{Begins}
use Rattle.sv_gates.proofs.ExtendingLaws.{begins_trans}
use Rattle.sv_gates.specs.Formulas.{Formula}
use Rattle.sv_gates.specs.Gates.{fresh_variable}
use Rattle.sv_circuits.specs.Words.{Word, fresh_word}
use Rattle.sv_circuits.proofs.WordKeeps.{onto, step_behind, word_up}
use Rattle.sv_circuits.proofs.LoopSteps.{LoopAt}

pub fresh_grows : (width : ℕ) (f : Formula) → f.variables ≤ ((fresh_word width f).0).variables
fresh_grows zero f = omega arith
fresh_grows (suc width) f =
    let more = fresh_grows width (fresh_variable f).0 in
    omega (arith, more)

pub fresh_start : (width : ℕ) (front : Word) (old : Formula) → front ≡ [] →
    fresh_word width old ≡ onto front (fresh_word (width - 0) old)
fresh_start width front old e =
    let all : width - 0 ≡ width = omega arith in rw (e, all) refl

pub fresh_step : (width k : ℕ) (front : Word) (g : ℤ) (now later : Formula) → k < width →
    fresh_variable now ≡ (later, g) →
    onto front (fresh_word (width - k) now)
    ≡ onto (front ++ g ∷ []) (fresh_word (width - (k + 1)) later)
fresh_step width k front g now later h e =
    let one : width - k ≡ suc (width - (k + 1)) = omega arith in
    ap (λ z. onto front (fresh_word z now)) one
    ∙ step_behind front (λ z. z) (λ f. fresh_word (width - (k + 1)) f) (fresh_variable now) later g
    e

pub fresh_full : (width k : ℕ) (front : Word) (now : Formula) (most : ℕ) → k < width →
    now.variables ≡ most → most < ((onto front (fresh_word (width - k) now)).0).variables
fresh_full width k front now most h full =
    let one : width - k ≡ suc (width - (k + 1)) = omega arith in
    let up = fresh_grows (width - (k + 1)) (fresh_variable now).0 in
    subst (λ z. most < ((fresh_word z now).0).variables) (sym one) (omega (arith, up, full))

pub fresh_end : (width k : ℕ) (front : Word) (now : Formula) → width ≤ k →
    onto front (fresh_word (width - k) now) ≡ (now, front)
fresh_end width k front now h =
    let none : width - k ≡ 0 = omega arith in
    ap (λ z. onto front (fresh_word z now)) none ∙ ap (λ z. (now, z)) (append-nil front)

-- one turn that takes no literal of a word
pub turned : {A : Type 0} (whole left next : Formula × A) (old now later : Formula)
    (front : Word) → LoopAt whole left old now [] [] front [] → left ≡ next →
    Begins now later → LoopAt whole next old later [] [] front []
turned whole left next old now later front at e up = record {
  made = at.made ∙ e;
  first = tt;
  second = tt;
  front = word_up now.variables later.variables front up.grows at.front;
  hand = tt;
  begins = begins_trans old now later at.begins up;
}
