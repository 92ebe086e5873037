-- The obligations of a part, which come next.
use Rattle.std.proofs.Common.{◌≡◌, ℕ, ◌+◌, ◌<◌, ◌≤◌, ◌++◌, List, [], map, flat_map, length, Some}
use Rattle.std.proofs.Common.{sym, ◌∙◌, ap, subst, arith, append-nil, length-append}
use Rattle.std.specs.Prelude.{slice_get, option_map, All}
use Rattle.std.proofs.lemmas.Option.{slice_get_within, slice_get-map}
use Rattle.sv_flat.specs.declared.designs.Flat.{Flat}
use Rattle.sv_flat.specs.Design.{FlatDesign}
use Rattle.sv_flat.specs.Views.{design_of, signal_form}
use Rattle.sv_flat.specs.Processes.{signal_numbers}
use Rattle.sv_obl.specs.DesignQueries.{IsQueryOf, IsPlaced}
use Rattle.sv_paths.specs.ListParts.{IsAt, ArePathsOf, obligations_before, obligations_from}
use Rattle.sv_paths.specs.ListParts.{obligations_on}
use Rattle.sv_obl.specs.Obligations.{Obligation, obligations, target_obligations}
use Rattle.sv_obl.specs.Obligations.{selector_obligations}
use Rattle.sv_obl.specs.Views.{obligation_of}
use Rattle.sv_paths.specs.declared.list_parts.Listing.{Listing}
use Rattle.sv_obl.specs.declared.queries.Query.{Query}
use Rattle.sv_paths.specs.declared.target_paths.TargetPaths.{TargetPaths}
use Rattle.sv_obl.proofs.FormLists.{length_mapped, get_all}
use Rattle.sv_paths.proofs.WrittenFacts.{before_and_from, from_next, next_before}
use Rattle.sv_judge.specs.Walking.{IsNext, AreNext, ComeNext}
use Rattle.sv_judge.proofs.Lists.{get_behind, get_first}

two_sums : {a b c d : ℕ} → a ≡ c → b ≡ d → a + b ≡ c + d
two_sums first second = omega arith

-- the place behind all signals of a design
pub known_at : (flat : Flat) (listing : Listing)
    → IsAt (design_of flat) (length flat.signals.items) listing
    → IsAt (design_of flat) (length (design_of flat).signals) listing
known_at flat listing =
    subst (λ n. IsAt (design_of flat) n listing)
    (sym (length_mapped signal_form flat.signals.items))

module _ (design : FlatDesign) where
  -- the obligations of a part behind others
  next_of : (before here after : List Obligation) (count : ℕ) (queries : List Query)
      → obligations [] design ≡ before ++ (here ++ after) → count ≡ length before
      → map obligation_of queries ≡ here → count + length queries ≤ 65536
      → All (IsQueryOf design) (map obligation_of queries)
      → All IsPlaced (map obligation_of queries) → AreNext design count queries
  next_of before here after count queries parts counted are few of_design placed = λ k query is.
      let o = obligation_of query in
      let inside = slice_get_within queries k query is in
      let at : slice_get (map obligation_of queries) k ≡ Some o =
      slice_get-map obligation_of queries k ∙ ap (option_map obligation_of) is in
      record {
        among =
            ap (λ n. slice_get (obligations [] design) (n + k)) counted
            ∙ ap (λ (os : List Obligation). slice_get os (length before + k)) parts
            ∙ get_behind before (here ++ after) k
            ∙ get_first here after k o
            (ap (λ (os : List Obligation). slice_get os k) (sym are) ∙ at);
        of_design = get_all (IsQueryOf design) (map obligation_of queries) k o of_design at;
        placed = get_all IsPlaced (map obligation_of queries) k o placed at;
        few = omega arith;
      }

  low : (i : ℕ) → i < length design.signals → i ≤ length design.signals
  low i inside = omega arith

  -- those of the target that comes next are counted
  pub target_counted : (i : ℕ) (old new : Listing) → IsAt design i old → IsAt design (i + 1) new
      → new.count ≡ old.count + length (target_obligations [] design i)
  target_counted i old new at next =
      next.counted.count
      ∙ ap length (next_before design i)
      ∙ length-append (obligations_before design i) (target_obligations [] design i)
      ∙ ap (λ n. n + length (target_obligations [] design i)) (sym at.counted.count)

  -- and come next
  pub target_next : (i : ℕ) (old new : Listing) (found : TargetPaths)
      → i < length design.signals → IsAt design i old → IsAt design (i + 1) new
      → ArePathsOf design found → found.target.0 ≡ i → ComeNext design old.count found
  target_next i old new found inside at next are is =
      let before = obligations_before design i in
      let here = target_obligations [] design i in
      let after = obligations_from design (i + 1) in
      let parts : obligations [] design ≡ before ++ (here ++ after) =
      sym (before_and_from design i (low i inside))
      ∙ ap (λ os. before ++ os) (from_next design i inside) in
      record {
        paths = are;
        among = λ k o there.
            ap (λ n. slice_get (obligations [] design) (n + k)) at.counted.count
            ∙ ap (λ (os : List Obligation). slice_get os (length before + k)) parts
            ∙ get_behind before (here ++ after) k
            ∙ get_first here after k o
            (subst (λ t. slice_get (target_obligations [] design t) k ≡ Some o) is there);
        few =
            subst (λ t. old.count + length (target_obligations [] design t) ≤ 65536) (sym is)
            (subst (λ n. n ≤ 65536) (target_counted i old new at next) next.counted.few);
      }

  -- one of them is the next
  pub path_next : (before place n : ℕ) (found : TargetPaths) (query : Query)
      → ComeNext design before found
      → slice_get (obligations_on design found) place ≡ Some (obligation_of query)
      → IsQueryOf design (obligation_of query) → IsPlaced (obligation_of query)
      → n ≡ before + place → IsNext design n query
  path_next before place n found query next there of_design placed is =
      let inside = slice_get_within (obligations_on design found) place (obligation_of query) there in
      let few = next.few in
      record {
        among = ap (slice_get (obligations [] design)) is ∙ next.among place (obligation_of query) there;
        of_design = of_design;
        placed = placed;
        few = omega arith;
      }

  abbrev selectors : List Obligation
  selectors = flat_map (selector_obligations [] design) (signal_numbers design)

  abbrev targets : List Obligation
  targets = obligations_before design (length design.signals)

  -- those of selectors come behind all targets
  pub selectors_next : (listing : Listing) (queries : List Query)
      → IsAt design (length design.signals) listing
      → map obligation_of queries
      ≡ flat_map (selector_obligations [] design) (signal_numbers design)
      → listing.count + length queries ≤ 65536
      → All (IsQueryOf design) (map obligation_of queries)
      → All IsPlaced (map obligation_of queries) → AreNext design listing.count queries
  selectors_next listing queries at are few of_design placed =
      next_of targets selectors [] listing.count queries
      (ap (λ os. targets ++ os) (sym (append-nil selectors))) at.counted.count are few of_design
      placed

  -- and are the last
  pub selectors_last : (listing : Listing) (queries : List Query)
      → IsAt design (length design.signals) listing
      → map obligation_of queries
      ≡ flat_map (selector_obligations [] design) (signal_numbers design)
      → listing.count + length queries ≡ length (obligations [] design)
  selectors_last listing queries at are =
      two_sums at.counted.count (sym (length_mapped obligation_of queries) ∙ ap length are)
      ∙ sym (length-append targets selectors)
