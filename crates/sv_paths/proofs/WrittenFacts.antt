-- Lines of obligations, one after the other.
use Rattle.std.proofs.Common.{◌≡◌, ℕ, zero, suc, ◌+◌, ◌-◌, ◌<◌, ◌≤◌, List, [], ◌∷◌, ◌++◌, length}
use Rattle.std.proofs.Common.{map, flat_map, take, get_or, All, Some, None, Result, Ok, Err}
use Rattle.std.proofs.Common.{refl, sym, ap, subst, ◌∙◌, arith, append_assoc, append-nil}
use Rattle.std.proofs.Common.{length-append, IsErrAnd, Bool, true, false, cond, nat_lt, ltb-false}
use Rattle.std.specs.Prelude.{IfErr}
use Rattle.std.specs.List.{range_with_len, list_any}
use Rattle.std.proofs.lemmas.List.{map-append, take_more}
use Rattle.sv_flat.specs.Design.{SignalForm, ProcessForm, FlatDesign}
use Rattle.sv_flat.specs.Processes.{is_clocked, signal_numbers}
use Rattle.sv_flat.specs.Sets.{holds, those}
use Rattle.sv_flat.proofs.LeastSets.{those_below}
use Rattle.sv_paths.specs.declared.faults.OblFault.{OblFault}
use Rattle.sv_paths.specs.declared.list_texts.NumberedLines.{NumberedLines}
use Rattle.sv_paths.specs.declared.routes.Route.{Route}
use Rattle.sv_paths.specs.declared.trails.Trail.{Trail}
use Rattle.sv_paths.specs.Answers.{Told, excess_at}
use Rattle.sv_obl.specs.DesignQueries.{IsQueryOf}
use Rattle.sv_paths.specs.Driven.{ArePaths, how_many, HasPaths}
use Rattle.sv_paths.specs.declared.targets.DrivenPaths.{DrivenPaths}
use Rattle.sv_paths.specs.declared.targets.Paths.{Paths}
use Rattle.sv_paths.specs.declared.targets.Paths.TheVariants.{Routes, Trails}
use Rattle.sv_flat.specs.declared.designs.Process.{Process}
use Rattle.sv_flat.specs.Views.{process_form}
use Rattle.sv_paths.specs.Alongs.{trail_obligation, is_large_trail}
use Rattle.sv_paths.specs.Limits.{Excess, many_paths, large_path, many_obligations}
use Rattle.sv_paths.specs.Limits.{first_excess, excess, target_paths}
use Rattle.sv_paths.specs.ListLines.{list_line, lines_from, list_text}
use Rattle.sv_obl.specs.Obligations.{Obligation, target_obligations, selector_obligations}
use Rattle.sv_obl.specs.MarkedBodies.{marked_statement}
use Rattle.sv_obl.specs.Obligations.{obligations}
use Rattle.sv_obl.specs.Routes.{RouteForm}
use Rattle.sv_paths.specs.RouteObligations.{names_on, route_obligation, is_large, excess_by}
use Rattle.sv_paths.specs.RouteViews.{route_form, route_forms}
use Rattle.sv_paths.specs.Trails.{TrailForm}
use Rattle.sv_paths.specs.TrailViews.{trail_form, trail_forms}
use Rattle.sv_obl.specs.Views.{IsAmong}
use Rattle.sv_paths.specs.ListParts.{obligations_before, obligations_from, lines_left, AreCounted}
use Rattle.sv_paths.specs.Written.{Writes}
use Rattle.sv_obl.proofs.AmongFacts.{query_among}
use Rattle.sv_flat.proofs.Members.{all_contained, contained_all}
use Rattle.sv_obl.proofs.FormLists.{length_mapped}
use Rattle.sv_paths.proofs.TargetFacts.{obligation_count}
use Rattle.sv_paths.proofs.TargetWalks.{next_number, range_at, none_at, told_at}

-- ---- places

-- one more of them
pub formed_more : {X Y : Type 0} (f : X → Y) (xs : List X) (i : ℕ) (x : X)
    → i < length xs → x ≡ get_or xs i x → map f (take (i + 1) xs) ≡ map f (take i xs) ++ f x ∷ []
formed_more f xs i x inside is =
    ap (map f) (take_more xs i x inside)
    ∙ map-append f (take i xs) (get_or xs i x ∷ [])
    ∙ ap (λ y. map f (take i xs) ++ f y ∷ []) (sym is)

pub forms_more : {F X : Type 0} (form : X → F) (become : F → Obligation) (xs : List X) (i : ℕ)
    (x : X) → i < length xs → x ≡ get_or xs i x
    → map become (map form (take (i + 1) xs))
    ≡ map become (map form (take i xs)) ++ become (form x) ∷ []
forms_more form become xs i x inside is =
    ap (map become) (formed_more form xs i x inside is)
    ∙ map-append become (map form (take i xs)) (form x ∷ [])

-- those before a place are as many as its number
count_before : {X : Type 0} (xs : List X) (i : ℕ) → i < length xs → length (take i xs) ≡ i
count_before [] i inside = absurd (omega arith)
count_before (x ∷ xs) zero inside = refl
count_before (x ∷ xs) (suc i) inside = ap suc (count_before xs i (omega arith))

-- ---- lines

module _ (signals : List SignalForm) where
  pub lines_append : (n : ℕ) (os ps : List Obligation)
      → lines_from signals n (os ++ ps)
      ≡ lines_from signals n os ++ lines_from signals (n + length os) ps
  lines_append n [] ps = ap (λ k. lines_from signals k ps) (plain n)
    where
      plain : (n : ℕ) → n ≡ n + 0
      plain n = omega arith
  lines_append n (o ∷ os) ps =
      ap (λ x. list_line signals n o ++ x) (lines_append (n + 1) os ps)
      ∙ sym (append_assoc (list_line signals n o) (lines_from signals (n + 1) os)
      (lines_from signals (n + 1 + length os) ps))
      ∙ ap (λ k. (list_line signals n o ++ lines_from signals (n + 1) os)
      ++ lines_from signals k ps) (next n (length os))
    where
      next : (n k : ℕ) → n + 1 + k ≡ n + suc k
      next n k = omega arith

  pub none_written : (lines : NumberedLines) → Writes signals [] lines lines
  none_written lines =
      record { text = sym (append-nil lines.text.items); count = plain lines.count }
    where
      plain : (n : ℕ) → n ≡ n + 0
      plain n = omega arith

  pub then_written : (os ps : List Obligation) (a b c : NumberedLines) → Writes signals os a b
      → Writes signals ps b c → Writes signals (os ++ ps) a c
  then_written os ps a b c first second =
      let start = a.text.items in
      let lines = lines_from signals (a.count + 1) os in
      record {
        text =
            second.text
            ∙ ap (λ k. b.text.items ++ lines_from signals (k + 1) ps) first.count
            ∙ ap (λ x. x ++ lines_from signals (a.count + length os + 1) ps) first.text
            ∙ append_assoc start lines (lines_from signals (a.count + length os + 1) ps)
            ∙ ap (λ k. start ++ (lines ++ lines_from signals k ps)) (turned a.count (length os))
            ∙ ap (λ x. start ++ x) (sym (lines_append (a.count + 1) os ps));
        count =
            second.count
            ∙ ap (λ k. k + length ps) first.count
            ∙ grouped a.count (length os) (length ps)
            ∙ ap (λ k. a.count + k) (sym (length-append os ps));
      }
    where
      turned : (n k : ℕ) → n + k + 1 ≡ n + 1 + k
      turned n k = omega arith

      grouped : (n k m : ℕ) → n + k + m ≡ n + (k + m)
      grouped n k m = omega arith

  -- one more line
  pub one_written : (os more : List Obligation) (o : Obligation) (a b c : NumberedLines)
      → more ≡ os ++ o ∷ [] → Writes signals os a b → Writes signals (o ∷ []) b c
      → Writes signals more a c
  one_written os more o a b c is first second =
      subst (λ xs. Writes signals xs a c) (sym is) (then_written os (o ∷ []) a b c first second)

  -- so far there are fewer than with all
  pub fewer : {X : Type 0} (f : X → Obligation) (xs : List X) (i most : ℕ) (a b : NumberedLines)
      → i < length xs → a.count + length xs ≤ most
      → Writes signals (map f (take i xs)) a b → b.count < most
  fewer f xs i most a b inside few w =
      let counted = w.count in
      let formed = length_mapped f (take i xs) in
      let before = count_before xs i inside in
      omega arith

  pub fewer_formed : {F X : Type 0} (form : X → F) (become : F → Obligation) (xs : List X)
      (i most : ℕ) (a b : NumberedLines) → i < length xs → a.count + length xs ≤ most
      → Writes signals (map become (map form (take i xs))) a b → b.count < most
  fewer_formed form become xs i most a b inside few w =
      let counted = w.count in
      let mapped = length_mapped become (map form (take i xs)) in
      let formed = length_mapped form (take i xs) in
      let before = count_before xs i inside in
      omega arith

-- ---- obligations

-- the obligation of a route is among the signals
pub route_among : (n : ℕ) (p : ProcessForm) (s : ℕ) (route : RouteForm) → s < n
    → IsAmong n (route_obligation n p s route)
route_among n p s route inside = record {
  reads = contained_all (λ t. t < n)
      (those n (holds (names_on (is_clocked p.kind) s route)))
      (λ t at. those_below n (holds (names_on (is_clocked p.kind) s route)) t at);
  goal = inside;
}

module _ (design : FlatDesign) where
  abbrev targets : List Obligation
  targets = flat_map (target_obligations [] design) (signal_numbers design)

  abbrev pub selectors : List Obligation
  selectors = flat_map (selector_obligations [] design) (signal_numbers design)

  pub among_all : (os : List Obligation) → All (IsQueryOf design) os
      → All (IsAmong (length design.signals)) os
  among_all os all =
      contained_all (IsAmong (length design.signals)) os (λ o at.
      query_among design o (all_contained (IsQueryOf design) os all o at))

  -- ---- the walk

  pub next_before : (i : ℕ) → obligations_before design (i + 1)
      ≡ obligations_before design i ++ target_obligations [] design i
  next_before i = sym (next_number (target_obligations [] design) []
      (obligations_before design i)
      (obligations_before design i ++ target_obligations [] design i) i refl refl)

  whole : (n : ℕ) → n - 0 ≡ n
  whole n = omega arith

  nothing_left : (n : ℕ) → 0 ≡ n - n
  nothing_left n = omega arith

  pub none_counted : AreCounted design 0 0
  none_counted = record {
    count = refl;
    rest = ap (λ k. first_excess design 0 (range_with_len 0 k)) (whole (length design.signals));
    few = omega arith;
  }

  pub more_counted : (i total more : ℕ) → i < length design.signals
      → AreCounted design i total → excess_at design total i ≡ None
      → more ≡ total + length (target_obligations [] design i)
      → AreCounted design (i + 1) more
  more_counted i total more inside so none counted =
      let rest = range_with_len (i + 1) (length design.signals - (i + 1)) in
      let by = none_at design total i rest none in
      let here = target_obligations [] design i in
      let many : more ≡ total + length (target_paths design i) =
      counted ∙ ap (λ k. total + k) (obligation_count design i) in
      record {
        count =
            counted
            ∙ ap (λ k. k + length here) so.count
            ∙ sym (length-append (obligations_before design i) here)
            ∙ ap length (sym (next_before i));
        rest =
            ap (λ k. first_excess design k rest) many
            ∙ sym by.1
            ∙ ap (first_excess design total) (sym (range_at design i inside))
            ∙ so.rest;
        few = subst (λ k. k ≤ 65536) (sym many) by.0;
      }

  -- a target has as many obligations as paths
  pub as_many : (i : ℕ) (process : Process) (paths : Paths) → ArePaths design i process paths
      → how_many paths ≡ length (target_obligations [] design i)
  as_many i process (Routes routes) are =
      let become = route_obligation (length design.signals) (process_form process) i in
      sym (length_mapped route_form routes.items)
      ∙ sym (length_mapped become (route_forms routes.items))
      ∙ ap length are.listed
  as_many i process (Trails body trails) are =
      let become = trail_obligation design.signals (process_form process) i
      (marked_statement body.now) in
      sym (length_mapped trail_form trails.items)
      ∙ sym (length_mapped become (trail_forms trails.items))
      ∙ ap length are.listed

  pub paths_many : (i total : ℕ) (driven : DrivenPaths) → HasPaths design i total driven
      → total + how_many driven.paths ≡ total + length (target_obligations [] design i)
  paths_many i total driven has =
      ap (λ n. total + n) (as_many i driven.process.now driven.paths has.are)

  -- and none where no process drives it
  pub no_paths : (i total : ℕ) → target_obligations [] design i ≡ []
      → total ≡ total + length (target_obligations [] design i)
  no_paths i total none = plain total ∙ ap (λ (os : List Obligation). total + length os) (sym none)
    where
      plain : (n : ℕ) → n ≡ n + 0
      plain n = omega arith

  pub told_counted : (i total : ℕ) → i < length design.signals
      → AreCounted design i total → (fault : OblFault)
      → Told (excess_at design total i) fault → Told (excess design) fault
  told_counted i total inside so fault h =
      subst (λ e. Told e fault)
      (ap (first_excess design total) (sym (range_at design i inside)) ∙ so.rest)
      (told_at design total i (range_with_len (i + 1) (length design.signals - (i + 1)))
      fault h)

  pub tells_error : {T : Type 0} (fault : OblFault) (result : Result T OblFault)
      → IsErrAnd result (λ y. y ≡ fault) → Told (excess design) fault
      → IfErr result (Told (excess design))
  tells_error fault (Ok x) same h = tt
  tells_error fault (Err y) same h = subst (Told (excess design)) (sym same) h

  -- the obligations of all targets, and of selectors, are all
  pub before_all : obligations_before design (length design.signals) ++ selectors
      ≡ obligations [] design
  before_all = refl

  -- where selectors pass no limit after the targets, the design passes none
  pub all_counted : (total : ℕ) → AreCounted design (length design.signals) total
      → first_excess design total [] ≡ excess design
  all_counted total so =
      ap (λ n. first_excess design total (range_with_len (length design.signals) n))
      (nothing_left (length design.signals)) ∙ so.rest

  -- ---- the parts

  -- those of a target come before those from the next one on
  pub from_next : (i : ℕ) → i < length design.signals
      → obligations_from design i ≡ target_obligations [] design i ++ obligations_from design (i + 1)
  from_next i inside =
      let here = target_obligations [] design i in
      let after = range_with_len (i + 1) (length design.signals - (i + 1)) in
      ap (λ ks. flat_map (target_obligations [] design) ks ++ selectors) (range_at design i inside)
      ∙ append_assoc here (flat_map (target_obligations [] design) after) selectors

  -- all obligations are those from the first target on
  pub all_from_first : obligations_from design 0 ≡ obligations [] design
  all_from_first =
      ap (λ k. flat_map (target_obligations [] design) (range_with_len 0 k) ++ selectors)
      (whole (length design.signals))

  -- and those before a target with those from it on
  pub before_and_from : (i : ℕ) → i ≤ length design.signals
      → obligations_before design i ++ obligations_from design i ≡ obligations [] design
  before_and_from zero inside = all_from_first
  before_and_from (suc i) inside =
      let here = target_obligations [] design i in
      subst (λ k. obligations_before design k ++ obligations_from design k
      ≡ obligations [] design) (next i)
      (ap (λ os. os ++ obligations_from design (i + 1)) (next_before i)
      ∙ append_assoc (obligations_before design i) here (obligations_from design (i + 1))
      ∙ ap (λ os. obligations_before design i ++ os) (sym (from_next i (omega arith)))
      ∙ before_and_from i (omega arith))
    where
      next : (k : ℕ) → k + 1 ≡ suc k
      next k = omega arith

  -- all lines are left before the first target
  pub all_left : lines_left design 0 ≡ list_text design
  all_left =
      ap (λ k. lines_from design.signals 1
      (flat_map (target_obligations [] design) (range_with_len 0 k) ++ selectors))
      (whole (length design.signals))

  -- those of a target come before those that are left after it
  pub target_left : (i total : ℕ) (text : List ℕ) → i < length design.signals
      → AreCounted design i total
      → text ≡ lines_from design.signals (total + 1) (target_obligations [] design i)
      → lines_left design i ≡ text ++ lines_left design (i + 1)
  target_left i total text inside so written =
      let here = target_obligations [] design i in
      let before = obligations_before design i in
      let rest = obligations_from design (i + 1) in
      let many : length before + 1 + length here ≡ length (obligations_before design (i + 1)) + 1 =
      turned (length before) (length here)
      ∙ ap (λ k. k + 1) (sym (length-append before here) ∙ ap length (sym (next_before i))) in
      ap (lines_from design.signals (length before + 1)) (from_next i inside)
      ∙ lines_append design.signals (length before + 1) here rest
      ∙ ap (λ k. lines_from design.signals (length before + 1) here
      ++ lines_from design.signals k rest) many
      ∙ ap (λ k. lines_from design.signals (k + 1) here ++ lines_left design (i + 1))
      (sym so.count)
      ∙ ap (λ x. x ++ lines_left design (i + 1)) (sym written)
    where
      turned : (n k : ℕ) → n + 1 + k ≡ n + k + 1
      turned n k = omega arith

-- ---- limits

-- where no limit is passed, the last is not
third_is_false : (a b c : Bool) (x y z : Excess)
    → cond a (Some x) (cond b (Some y) (cond c (Some z) None)) ≡ None → c ≡ false
third_is_false true b c x y z h = absurd (no_some x h)
  where
    no_some : (x : Excess) → Some x ≡ None → ⊥
    no_some x e = cc
third_is_false false true c x y z h = absurd (no_some y h)
  where
    no_some : (x : Excess) → Some x ≡ None → ⊥
    no_some x e = cc
third_is_false false false true x y z h = absurd (no_some z h)
  where
    no_some : (x : Excess) → Some x ≡ None → ⊥
    no_some x e = cc
third_is_false false false false x y z h = refl

few_found : {X F : Type 0} (form : X → F) (is_large : F → Bool) (s total : ℕ) (forms : List F)
    (xs : List X) → excess_by is_large s total forms ≡ None → map form xs ≡ forms
    → total + length xs ≤ 65536
few_found form is_large s total forms xs none are =
    let few = ltb-false 65536 (total + length forms)
    (third_is_false (nat_lt 4096 (length forms)) (list_any is_large forms)
    (nat_lt 65536 (total + length forms)) (many_paths s) (large_path s) many_obligations none) in
    subst (λ n. total + n ≤ 65536) (sym (ap length are) ∙ length_mapped form xs) few

pub few_routes : (s total : ℕ) (forms : List RouteForm) (routes : List Route)
    → excess_by is_large s total forms ≡ None → route_forms routes ≡ forms
    → total + length routes ≤ 65536
few_routes s total forms routes none are =
    few_found route_form is_large s total forms routes none are

pub few_trails : (s total : ℕ) (forms : List TrailForm) (trails : List Trail)
    → excess_by is_large_trail s total forms ≡ None → trail_forms trails ≡ forms
    → total + length trails ≤ 65536
few_trails s total forms trails none are =
    few_found trail_form is_large_trail s total forms trails none are
