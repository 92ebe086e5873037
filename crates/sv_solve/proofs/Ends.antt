-- What a search shows at its end.
use Rattle.std.proofs.Common.{◌≡◌, ◌<◌, ◌^◌, ℤ, List, [], ◌∷◌, ◌++◌, sym, ap, ◌∙◌, subst, refl}
use Rattle.std.proofs.Common.{length, arith}
use Rattle.std.specs.Prelude.{All, Result, Ok, Err, IfOk}
use Rattle.std.proofs.lemmas.List.{length_push, append_assoc, map_push}
use Rattle.sv_clause.specs.Logs.{Step, clauses_of, plain_log, IsDerived, AllDerived, Refutes}
use Rattle.sv_clause.specs.Units.{IsAtRest, IsSpentLog}
use Rattle.sv_clause.specs.declared.logs.Log.{Log}
use Rattle.sv_solve.specs.Search.{IsClauseOf}
use Rattle.sv_solve.specs.Known.{Known, clauses_known, EachNew}
use Rattle.sv_solve.specs.Answers.{OnlyLastIsEmpty, AreDifferent}
use Rattle.sv_solve.specs.Outcomes.{IsRefutation}
use Rattle.sv_solve.proofs.Knowing.{refutation, only_last_empty, spent_answer}

-- the log of what was learned and an empty step is a refutation
pub refuted_known : (known : Known) (log : Log) (step : Step)
    → plain_log log ≡ known.steps ++ step ∷ [] → AllDerived known.given known.steps
    → EachNew known.given known.steps
    → IsDerived (clauses_known known) step → step.clause ≡ [] → IsRefutation known log
refuted_known known log step is derived each last empty =
    record {
      refutes =
          subst (Refutes known.given) (sym is)
          (refutation known.given known.steps step derived last empty);
      last = subst OnlyLastIsEmpty (sym is) (only_last_empty known.given known.steps step each);
      size = ap length is ∙ length_push known.steps step;
    }

-- the log of what was learned is spent where all clauses are at rest
pub spent_known : (known : Known) (log : List Step) (trail : List ℤ) → log ≡ known.steps
    → AllDerived known.given known.steps → EachNew known.given known.steps
    → All (IsClauseOf known.variables) (clauses_known known) → IsAtRest (clauses_known known) trail
    → IsSpentLog known.given log (length known.steps) × AreDifferent log
    × (length known.steps < 3 ^ known.variables)
spent_known known log trail is derived each of rest =
    spent_answer known.variables known.variables known.given known.steps log (length known.steps)
    trail (omega arith) is refl derived each of rest

pub refuted_result : {E : Type 0} (known : Known) (step : Step) (result : Result Log E)
    → IfOk result (λ log. plain_log log ≡ known.steps ++ step ∷ [])
    → AllDerived known.given known.steps → EachNew known.given known.steps
    → IsDerived (clauses_known known) step → step.clause ≡ [] → IfOk result (IsRefutation known)
refuted_result known step (Ok log) is derived each last empty =
    refuted_known known log step is derived each last empty
refuted_result known step (Err e) is derived each last empty = tt

-- all clauses after one more step
pub known_more : (known next : Known) (step : Step) → next.given ≡ known.given →
    next.steps ≡ known.steps ++ step ∷ [] →
    clauses_known next ≡ clauses_known known ++ step.clause ∷ []
known_more known next step given steps =
    ap (λ z. z ++ clauses_of next.steps) given
    ∙ ap (λ z. known.given ++ z) (ap clauses_of steps
    ∙ map_push (λ s. s.clause) known.steps step)
    ∙ sym (append_assoc known.given (clauses_of known.steps) (step.clause ∷ []))
