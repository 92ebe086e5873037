-- What refuses by a step, and what stops with it.
use Rattle.std.proofs.Common.{◌≡◌, ℕ, List, refl, sym, ap, ◌∙◌}
use Rattle.std.specs.Prelude.{Result, Ok, Err, OnOk, OnErr, IfOk, IfErr, is_some, IsTrue}
use Rattle.sv_num.specs.declared.faults.Fault.{Fault}
use Rattle.sv_num.specs.declared.faults.Fault.TheVariants.{Rule, OutOfMemory}
use Rattle.sv_num.specs.declared.faults.Place.{Place}
use Rattle.sv_elab_rules.specs.Walks.{WalkStep}
use Rattle.sv_elab_rules.specs.Rules.{twice}
use Rattle.sv_elab_rules.specs.Declarations.{Declared as WalkDeclared}
use Rattle.sv_width.specs.Answers.{IsBreach}
use Rattle.sv_width.specs.Scopes.{Known, meaning_of, IsTwice}
use Rattle.sv_elab_decl.specs.declared.sites.Declared.{Declared}
use Rattle.sv_elab_decl.specs.Sites.{declared_of}
use Rattle.sv_elab_decl.specs.Steps.{Stops}

-- what breaks one walk breaks another
pub breach_on : {X Y : Type 0} (f : Fault) (d : Result X WalkStep) (e : Result Y WalkStep)
    → ((s : WalkStep) → d ≡ Err s → e ≡ Err s) → IsBreach d f → IsBreach e f
breach_on (Rule r) d e on h = on _ h
breach_on OutOfMemory d e on h = tt

-- where nothing more was declared
pub stops_at : (f : Fault) (end : Result WalkDeclared WalkStep) (d : Declared)
    → IsBreach end f → Stops end (declared_of d) d f
stops_at (Rule r) end d h = (h, refl)
stops_at OutOfMemory end d h = tt

pub stops_breach : (f : Fault) (end : Result WalkDeclared WalkStep) (until : WalkDeclared)
    (d : Declared)
    → Stops end until d f → IsBreach end f
stops_breach (Rule r) end until d h = h.0
stops_breach OutOfMemory end until d h = tt

-- what refuses a name that stands for something already
pub breach_twice : {X : Type 0} (f : Fault) (known : Known) (n : List ℕ) (place : Place)
    (end : Result X WalkStep) → (IsTrue (is_some (meaning_of known n)) → end ≡ Err (twice place n))
    → IsTwice known n place f → IsBreach end f
breach_twice (Rule r) known n place end broken h =
    broken h.1 ∙ ap (λ (t : WalkStep). Err t) (sym h.0)
breach_twice OutOfMemory known n place end broken h = tt

-- ---- what two clauses say of a result

pub ok_two : {T E : Type 0} (r : Result T E) (P Q R : Type 0) → (P → Q → R) → OnOk r P → OnOk r Q →
    OnOk r R
ok_two (Ok x) P Q R f p q = f p q
ok_two (Err e) P Q R f p q = tt

pub ok_each : {T E : Type 0} (r : Result T E) (Q R : T → Type 0) → ((x : T) → Q x → R x) →
    IfOk r Q → IfOk r R
ok_each (Ok x) Q R f q = f x q
ok_each (Err e) Q R f q = tt

pub err_two : {T E : Type 0} (r : Result T E) (P : E → Type 0) (Q : Type 0) (R : E → Type 0)
    → ((e : E) → P e → Q → R e) → IfErr r P → OnErr r Q → IfErr r R
err_two (Ok x) P Q R f p q = tt
err_two (Err e) P Q R f p q = f e p q

pub err_each : {T E : Type 0} (r : Result T E) (P Q : E → Type 0) → ((e : E) → P e → Q e) →
    IfErr r P → IfErr r Q
err_each (Ok x) P Q f h = tt
err_each (Err e) P Q f h = f e h
