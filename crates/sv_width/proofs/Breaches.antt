-- What refuses by a step.
use Rattle.std.proofs.Common.{◌≡◌, ℕ, List, refl, sym, ap, ◌∙◌}
use Rattle.std.specs.Prelude.{Result, Ok, Err, IfOk, OnOk, IfErr}
use Rattle.sv_num.specs.declared.faults.Place.{Place}
use Rattle.sv_num.specs.declared.faults.Fault.{Fault}
use Rattle.sv_num.specs.declared.faults.Fault.TheVariants.{Rule, OutOfMemory}
use Rattle.sv_num.specs.Faults.{Refuses}
use Rattle.sv_elab_rules.specs.Walks.{WalkStep}
use Rattle.sv_elab_rules.specs.Rules.{step}
use Rattle.sv_width.specs.Answers.{step_of, IsBreach}

pub breach_of : {X : Type 0} (f : Fault) (number : ℕ) (place : Place) (names given : List (List ℕ))
    → Refuses f number place names → names ≡ given → (end : Result X WalkStep)
    → end ≡ Err (step number place given) → IsBreach end f
breach_of (Rule r) number place names given refuses is end e =
    e ∙ sym (ap (λ (s : WalkStep).
    Err s) (ap (λ (t : ℕ × Place × List (List ℕ)). step t.0 t.1 t.2) refuses
    ∙ ap (λ ns. step number place ns) is))
breach_of OutOfMemory number place names given refuses is end e = tt

one_step : (end : Result (Unit {0}) WalkStep) (s t : WalkStep) → end ≡ Err s → end ≡ Err t → s ≡ t
one_step end s t g h = cc

-- what refuses by a step refuses where a walk of anything is broken by it
pub breach_by : {X : Type 0} (f : Fault) (s : WalkStep)
    → ((end : Result (Unit {0}) WalkStep) → end ≡ Err s → IsBreach end f)
    → (end : Result X WalkStep) → end ≡ Err s → IsBreach end f
breach_by (Rule r) s refuses end e =
    e ∙ ap (λ (t : WalkStep). Err t) (one_step (Err s) s (step_of r) refl (refuses (Err s) refl))
breach_by OutOfMemory s refuses end e = tt

pub breach_memory : {X : Type 0} (f : Fault) → f ≡ OutOfMemory → (end : Result X WalkStep) →
    IsBreach end f
breach_memory (Rule r) is end = absurd (cc is)
breach_memory OutOfMemory is end = tt

-- ---- what a call answers, taken on

pub ok_both : {T E : Type 0} (r : Result T E) (P : Type 0) (Q R : T → Type 0) →
    (P → (x : T) → Q x → R x) → OnOk r P → IfOk r Q → IfOk r R
ok_both (Ok x) P Q R f p q = f p x q
ok_both (Err e) P Q R f p q = tt

pub ok_weaker : {T E : Type 0} (r : Result T E) (Q R : T → Type 0) → ((x : T) → Q x → R x) →
    IfOk r Q → IfOk r R
ok_weaker (Ok x) Q R f q = f x q
ok_weaker (Err e) Q R f q = tt

pub err_weaker : {T E : Type 0} (r : Result T E) (P Q : E → Type 0) → ((e : E) → P e → Q e) →
    IfErr r P → IfErr r Q
err_weaker (Ok x) P Q f h = tt
err_weaker (Err e) P Q f h = f e h
