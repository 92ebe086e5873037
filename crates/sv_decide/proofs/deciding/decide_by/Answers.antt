use Rattle.std.proofs.Common.{rules, ◌≡◌, ◌^◌, ◌≤◌, sym, ap, subst, ◌∙◌, List, ℤ, map, length}
use Rattle.std.proofs.Common.{All, Bool, ℕ}
use Rattle.std.specs.Prelude.{Result, Ok, IfOk}
use Rattle.sv_clause.specs.Logs.{plain_log, Refutes}
use Rattle.sv_clause.specs.declared.logs.Log.{Log}
use Rattle.sv_clause.specs.Units.{IsSpentLog, IsUnitConflict}
use Rattle.sv_gates.specs.Formulas.{IsWithin, value_of}
use Rattle.sv_flat.specs.Views.{design_of}
use Rattle.sv_obl.specs.Validity.{Falsifies}
use Rattle.sv_obl.specs.Valuations.{valuation_of}
use Rattle.sv_obl.specs.Views.{obligation_of}
use Rattle.sv_encoding.specs.BothWays.{IsZeroOutside}
use Rattle.sv_encoding.specs.Deciding.{Fits}
use Rattle.sv_encoding.specs.Encoding.{encoding}
use Rattle.sv_encoding.specs.Valuations.{decoded}
use Rattle.sv_blast.specs.Coded.{place_form}
use Rattle.sv_blast.specs.Coders.{encoding_in}
use Rattle.sv_blast.specs.Decoded.{ListsValues, IsDecodable}
use Rattle.sv_blast.proofs.DecodedLists.{whole_decodes}
use Rattle.sv_solve.specs.Answers.{IsNotSpent as IsNotSpentThere}
use Rattle.sv_solve.specs.declared.solver.Solved.{Solved}
use Rattle.sv_solve.specs.declared.solver.Solved.TheVariants.{Spent}
use Rattle.sv_decide.proofs.FoundValues.{clauses_same, variables_same, made_fits, found}
use Rattle.sv_decide.proofs.deciding.decide_by.Goals as goal
use Rattle.sv_decide.proofs.deciding.decide_by.Goals.{In_ok-encode, In_ok-spelled-in-Found}
use Rattle.sv_decide.proofs.deciding.decide_by.Goals.{After-clauses}

pub solve-requires-clause-within : goal.solve-requires-clause-within
solve-requires-clause-within c =
    subst (λ (n : ℕ). All (IsWithin n) c.clauses.result.now) (sym c.variables.ensures)
    (subst (All (IsWithin (encoding_in c.encode.new.self).variables)) (sym c.clauses.ensures)
    c.in_ok-encode.ensures.whole.within)

pub spelled-requires : goal.spelled-requires
spelled-requires c =
    let values_are = ap length c.deref.ensures.value
    ∙ rw c.in-Found.is at c.in_ok-values.ensures.found_size in
    record {
      bits = subst (λ (n : ℕ). IsDecodable (design_of c.args.design.now) n
          (map place_form c.bits.result.now)) (sym (values_are ∙ c.variables.ensures))
          (subst (IsDecodable (design_of c.args.design.now) (encoding_in c.encode.new.self).variables)
          (sym c.bits.ensures)
          (whole_decodes (design_of c.args.design.now) (obligation_of c.args.query.now)
          (encoding_in c.encode.new.self) c.in_ok-encode.ensures.whole));
    }

-- the encoding that was made has few variables
fits : (c : In_ok-encode) → Fits (design_of c.args.design.now) (obligation_of c.args.query.now)
fits c =
    made_fits (design_of c.args.design.now) (obligation_of c.args.query.now)
    (encoding_in c.encode.new.self) c.in_ok-encode.ensures.coded c.in_ok-encode.ensures.few

pub returns-in_ok-spelled-in-Found-clause-fits : goal.returns-in_ok-spelled-in-Found-clause-fits
returns-in_ok-spelled-in-Found-clause-fits c =
    fits (goal.at.returns-in_ok-spelled-in-Found-clause-fits c).In_ok-encode

pub returns-in-Refuted-clause-fits : goal.returns-in-Refuted-clause-fits
returns-in-Refuted-clause-fits c = fits (goal.at.returns-in-Refuted-clause-fits c).In_ok-encode

pub returns-in-Spent-clause-fits : goal.returns-in-Spent-clause-fits
returns-in-Spent-clause-fits c = fits (goal.at.returns-in-Spent-clause-fits c).In_ok-encode

-- the valuation that was spelled falsifies the obligation, and is 0 where nothing hangs on it
falsified : (c : In_ok-spelled-in-Found) →
    Falsifies (design_of c.args.design.now)
    (valuation_of (design_of c.args.design.now) c.in_ok-spelled-in-Found.field-0)
    (obligation_of c.args.query.now)
    × IsZeroOutside (design_of c.args.design.now) (obligation_of c.args.query.now)
    (valuation_of (design_of c.args.design.now) c.in_ok-spelled-in-Found.field-0)
falsified c =
    let design = design_of c.args.design.now in
    found design (obligation_of c.args.query.now) (encoding_in c.encode.new.self)
    c.in_ok-encode.ensures.coded c.know_design.ensures.checked c.requires.query
    c.in_ok-encode.ensures.whole c.clauses.result.now c.clauses.ensures
    (map place_form c.bits.result.now) c.bits.ensures c.in-Found.values.items
    (rw c.in-Found.is at c.in_ok-values.ensures.found) c.in_ok-spelled-in-Found.field-0
    (subst (λ (values : List Bool). ListsValues design
    (decoded design (map place_form c.bits.result.now) (value_of values))
    c.in_ok-spelled-in-Found.field-0) c.deref.ensures.value
    c.in_ok-spelled-in-Found.ensures.spelled)

pub returns-in_ok-spelled-in-Found-clause-fails : goal.returns-in_ok-spelled-in-Found-clause-fails
returns-in_ok-spelled-in-Found-clause-fails c =
    (falsified
    (goal.at.returns-in_ok-spelled-in-Found-clause-fails c).In_ok-spelled-in-Found).0

pub returns-in_ok-spelled-in-Found-clause-fails_zero :
    goal.returns-in_ok-spelled-in-Found-clause-fails_zero
returns-in_ok-spelled-in-Found-clause-fails_zero c =
    (falsified
    (goal.at.returns-in_ok-spelled-in-Found-clause-fails_zero c).In_ok-spelled-in-Found).1

-- the clauses in hand are those of the encoding
same_clauses : (c : After-clauses) → c.clauses.result.now
    ≡ (encoding (design_of c.args.design.now) (obligation_of c.args.query.now)).clauses
same_clauses c =
    clauses_same (design_of c.args.design.now) (obligation_of c.args.query.now)
    (encoding_in c.encode.new.self) c.in_ok-encode.ensures.coded c.clauses.result.now
    c.clauses.ensures

pub returns-in-Refuted-clause-valid : goal.returns-in-Refuted-clause-valid
returns-in-Refuted-clause-valid c =
    subst (λ (clauses : List (List ℤ)). Refutes clauses (plain_log c.in-Refuted.log))
    (same_clauses (goal.at.returns-in-Refuted-clause-valid c).After-clauses)
    (rw c.in-Refuted.is at c.in_ok-values.ensures.refuted)

pub returns-in-Refuted-clause-valid_last : goal.returns-in-Refuted-clause-valid_last
returns-in-Refuted-clause-valid_last c =
    rw c.in-Refuted.is at c.in_ok-values.ensures.refuted_last

pub returns-in-Refuted-clause-valid_size : goal.returns-in-Refuted-clause-valid_size
returns-in-Refuted-clause-valid_size c =
    rw c.in-Refuted.is at c.in_ok-values.ensures.refuted_size

pub returns-in-Spent-clause-spent : goal.returns-in-Spent-clause-spent
returns-in-Spent-clause-spent c =
    subst (λ (clauses : List (List ℤ)).
    IsSpentLog clauses (plain_log c.in-Spent.log) c.args.budget)
    (same_clauses (goal.at.returns-in-Spent-clause-spent c).After-clauses)
    (rw c.in-Spent.is at c.in_ok-values.ensures.spent)

pub returns-in-Spent-clause-spent_different : goal.returns-in-Spent-clause-spent_different
returns-in-Spent-clause-spent_different c =
    rw c.in-Spent.is at c.in_ok-values.ensures.spent_different

-- a spent log is not among the answers
none_spent : {E : Type 0} (result : Result Solved E) (log : Log) → result ≡ Ok (Spent log) →
    IfOk result IsNotSpentThere → ⊥
none_spent {E} result log is not_spent =
    subst (λ (r : Result Solved E). IfOk r IsNotSpentThere) is not_spent

pub returns-in-Spent-clause-large_budget_never_spent : goal.returns-in-Spent-clause-large_budget_never_spent
returns-in-Spent-clause-large_budget_never_spent c =
    let is : c.solve.result ≡ Ok (Spent c.in-Spent.log) = search rules in
    let same = variables_same (design_of c.args.design.now) (obligation_of c.args.query.now)
    (encoding_in c.encode.new.self) c.in_ok-encode.ensures.coded c.variables.result
    c.variables.ensures in
    λ large. none_spent c.solve.result c.in-Spent.log is
    (c.solve.ensures.large_budget_never_spent
    (subst (λ n. 3 ^ n ≤ c.args.budget) (sym same) large))

pub returns-in-Spent-clause-units_never_spent : goal.returns-in-Spent-clause-units_never_spent
returns-in-Spent-clause-units_never_spent c =
    let is : c.solve.result ≡ Ok (Spent c.in-Spent.log) = search rules in
    let same = same_clauses (goal.at.returns-in-Spent-clause-units_never_spent c).After-clauses in
    λ literals conflict. none_spent c.solve.result c.in-Spent.log is
    (c.solve.ensures.units_never_spent literals
    (subst (λ (clauses : List (List ℤ)). IsUnitConflict clauses literals) (sym same) conflict))
