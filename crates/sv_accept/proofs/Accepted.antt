-- What accepted logs show of their obligations, and how a list of them goes on.
use Rattle.std.proofs.Common.{◌≡◌, ◌≢◌, ℕ, zero, suc, ◌+◌, ◌<◌, ◌≤◌, ◌^◌, List, [], ◌∷◌, ◌++◌, length}
use Rattle.std.proofs.Common.{map, take, get_or, refl, sym, ap, ◌∙◌, subst, All, Some, slice_get, arith}
use Rattle.std.specs.List.{AllZip}
use Rattle.std.proofs.lemmas.List.{length-map, get_or-map}
use Rattle.std.proofs.lemmas.List.Elements.{All-nil, All-cons, All-head, All-tail, All-get_or}
use Rattle.std.proofs.lemmas.Option.{slice_get_read}
use Rattle.sv_clause.specs.Logs.{Step, Refutes, plain_step, plain_log}
use Rattle.sv_clause.specs.declared.logs.Log.{Log}
use Rattle.sv_gates.specs.Formulas.{most_variables}
use Rattle.sv_flat.specs.Design.{TypedTree, FlatDesign}
use Rattle.sv_obl.specs.DesignQueries.{IsQueryOf}
use Rattle.sv_obl.specs.Obligations.{Obligation, obligations}
use Rattle.sv_obl.specs.Validity.{IsValid, AllValid}
use Rattle.sv_obl.specs.Views.{obligation_of}
use Rattle.sv_obl.specs.declared.queries.Query.{Query}
use Rattle.sv_encoding.specs.Encoding.{Encoding, encoding}
use Rattle.sv_encoding.specs.Deciding.{Fits, IsRefutedBy}
use Rattle.sv_proof.specs.Certificate.{plain_logs}
use Rattle.sv_proof.specs.Checking.{HasFault}
use Rattle.sv_proof.specs.declared.check.LogFault.{LogFault}
use Rattle.sv_proof.specs.declared.check.LogFault.TheVariants.{OutOfMemory as WantOfMemory}
use Rattle.sv_blast.specs.Coded.{encoding_of}
use Rattle.sv_blast.specs.declared.coded.Coded.{Coded}
use Rattle.sv_accept.specs.Accepting.{IsAccepted, HasQueryFault, IsFirstFault, HasAcceptFault}
use Rattle.sv_accept.specs.Accepting.{numbered_fault, BeginsWithObligations}
use Rattle.sv_accept.specs.declared.faults.QueryFault.{QueryFault}
use Rattle.sv_accept.specs.declared.faults.QueryFault.TheVariants as query

-- ---- one obligation

module _ (design : FlatDesign) (o : Obligation) (coded : Coded) (steps : List Step)
    (is : encoding_of coded ≡ encoding design o) (few : coded.variables ≤ most_variables) where
  pub fits : Fits design o
  fits = subst (λ (e : Encoding). e.variables ≤ most_variables) is few

  pub accepted : Refutes coded.clauses.items steps → IsAccepted design o steps
  accepted refutes = (fits, subst (λ (e : Encoding). Refutes e.clauses steps) is refutes)

  pub at_fault : (fault : LogFault) → fault ≢ WantOfMemory →
      HasFault coded.clauses.items steps fault → HasQueryFault design o steps (query.Log fault)
  at_fault fault other has =
      (fits, other, subst (λ (e : Encoding). HasFault e.clauses steps fault) is has)

-- ---- lists of them

-- what is refuted is valid
abbrev pub RefutedAreValid : FlatDesign → Type 0
RefutedAreValid design =
    (o : Obligation) (steps : List Step) → IsQueryOf design o → IsRefutedBy design o steps →
    IsValid design o

pub all_valid : (design : FlatDesign) (list : List Obligation) (logs : List (List Step)) →
    RefutedAreValid design → All (IsQueryOf design) list → AllZip (IsAccepted design) list logs →
    All (IsValid design) list
all_valid design [] logs law asked each = All-nil (IsValid design)
all_valid design (o ∷ list) [] law asked each = absurd each
all_valid design (o ∷ list) (steps ∷ logs) law asked each =
    All-cons (IsValid design) o list
    (law o steps (All-head (IsQueryOf design) o list asked) each.0.1)
    (all_valid design list logs law (All-tail (IsQueryOf design) o list asked) each.1)

All-front : {X : Type 0} (P : X → Type 0) (xs ys : List X) → All P (xs ++ ys) → All P xs
All-front P [] ys all = All-nil P
All-front P (x ∷ xs) ys all =
    All-cons P x xs (All-head P x (xs ++ ys) all)
    (All-front P xs ys (All-tail P x (xs ++ ys) all))

pub obligations_valid : (facts : List TypedTree) (design : FlatDesign) (list : List Obligation) →
    BeginsWithObligations facts design list → All (IsValid design) list → AllValid facts design
obligations_valid facts design list (more, is) all =
    All-front (IsValid design) (obligations facts design) more
    (subst (All (IsValid design)) is all)

-- one more place of both lists
zip_suc : {X Y : Type 0} (R : X → Y → Type 0) (xs : List X) (ys : List Y) (i : ℕ) (x : X) (y : Y) →
    i < length xs → i < length ys → x ≡ get_or xs i x → y ≡ get_or ys i y →
    AllZip R (take i xs) (take i ys) → R x y → AllZip R (take (suc i) xs) (take (suc i) ys)
zip_suc R [] ys i x y h k ex ey z r = absurd (omega arith)
zip_suc R (a ∷ xs) [] i x y h k ex ey z r = absurd (omega arith)
zip_suc R (a ∷ xs) (b ∷ ys) zero x y h k ex ey z r =
    (subst (λ v. R v b) ex (subst (R x) ey r), tt)
zip_suc R (a ∷ xs) (b ∷ ys) (suc i) x y h k ex ey z r =
    (z.0, zip_suc R xs ys i x y (omega arith) (omega arith) ex ey z.1 r)

-- queries and their logs, up to some place
module _ (design : FlatDesign) (queries : List Query) (logs : List Log) where
  abbrev pub AcceptedBelow : ℕ → Type 0
  AcceptedBelow i =
      AllZip (IsAccepted design) (take i (map obligation_of queries)) (take i (plain_logs logs))

  module _ (i : ℕ) (q : Query) (log : Log) (same : length queries ≡ length logs)
      (inside : i < length queries) (q_is : q ≡ get_or queries i q)
      (log_is : log ≡ get_or logs i log) where
    q_at : obligation_of q ≡ get_or (map obligation_of queries) i (obligation_of q)
    q_at =
        sym (get_or-map obligation_of queries i q (obligation_of q) inside
        ∙ ap obligation_of (sym q_is))

    log_at : plain_log log ≡ get_or (plain_logs logs) i (plain_log log)
    log_at =
        sym (get_or-map plain_log logs i log (plain_log log) (omega arith)
        ∙ ap plain_log (sym log_is))

    q_inside : i < length (map obligation_of queries)
    q_inside = let long = length-map queries obligation_of in omega arith

    log_inside : i < length (plain_logs logs)
    log_inside = let long = length-map logs plain_log in omega arith

    pub asked_here : All (IsQueryOf design) (map obligation_of queries) →
        IsQueryOf design (obligation_of q)
    asked_here all =
        subst (IsQueryOf design) (sym q_at)
        (All-get_or (IsQueryOf design) (map obligation_of queries) i (obligation_of q) q_inside all)

    pub few_here : All (λ steps. length steps < 2 ^ 32) (plain_logs logs) →
        length log.steps.items < 2 ^ 32
    few_here all =
        let Few : List Step → Type 0 = λ steps. length steps < 2 ^ 32 in
        let here : length (plain_log log) < 2 ^ 32 = subst Few (sym log_at)
        (All-get_or Few (plain_logs logs) i (plain_log log) log_inside all) in
        let long = length-map log.steps.items plain_step in
        omega arith

    pub accepted_more : AcceptedBelow i → IsAccepted design (obligation_of q) (plain_log log) →
        AcceptedBelow (i + 1)
    accepted_more below here =
        let next : suc i ≡ i + 1 = omega arith in
        subst AcceptedBelow next
        (zip_suc (IsAccepted design) (map obligation_of queries) (plain_logs logs) i
        (obligation_of q) (plain_log log) q_inside log_inside q_at log_at below here)

    first_fault : (fault : QueryFault) → AcceptedBelow i →
        HasQueryFault design (obligation_of q) (plain_log log) fault →
        IsFirstFault design (map obligation_of queries) (plain_logs logs) (i + 1) fault
    first_fault fault below has =
        record {
          same_count = length-map queries obligation_of ∙ same ∙ sym (length-map logs plain_log);
          before = i;
          number_is = omega arith;
          accepted = below;
          obligation = obligation_of q;
          steps = plain_log log;
          obligation_is = at (map obligation_of queries) (obligation_of q) q_inside q_at;
          steps_are = at (plain_logs logs) (plain_log log) log_inside log_at;
          has = has;
        }
      where
        at : {X : Type 0} (xs : List X) (x : X) → i < length xs → x ≡ get_or xs i x →
            slice_get xs i ≡ Some x
        at xs x h is = slice_get_read xs (length xs) i x refl h is

    pub numbered_first : (fault : QueryFault) → AcceptedBelow i →
        HasQueryFault design (obligation_of q) (plain_log log) fault →
        HasAcceptFault design (map obligation_of queries) (plain_logs logs)
        (numbered_fault (i + 1) fault)
    numbered_first query.TooLarge below has = first_fault query.TooLarge below has
    numbered_first (query.Log fault) below has = first_fault (query.Log fault) below has
    numbered_first query.OutOfMemory below has = tt
