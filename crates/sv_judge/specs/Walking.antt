-- Private: how the code goes; the meaning stands in `Verdicts` and `Certified`. The obligations of
-- a design, walked through part by part.
use Rattle.std.specs.Prelude.{◌≡◌, ◌≤◌, ◌<◌, ℕ, ◌+◌, List, length, slice_get, Some}
use Rattle.sv_flat.specs.Design.{FlatDesign}
use Rattle.sv_obl.specs.Asked.{asked}
use Rattle.sv_obl.specs.DesignQueries.{IsQueryOf, IsPlaced}
use Rattle.sv_paths.specs.ListParts.{ArePathsOf, obligations_on}
use Rattle.sv_obl.specs.Obligations.{Obligation}
use Rattle.sv_obl.specs.Views.{obligation_of}
use Rattle.sv_obl.specs.declared.queries.Query.{Query}
use Rattle.sv_paths.specs.declared.target_paths.TargetPaths.{TargetPaths}

-- this query is the obligation behind so many others
pub record IsNext (design : FlatDesign) (before : ℕ) (query : Query) : Type 0 where
  pub among : slice_get (asked design) before ≡ Some (obligation_of query)
  pub of_design : IsQueryOf design (obligation_of query)
  pub placed : IsPlaced (obligation_of query)
  pub few : before < 65536

-- these are the obligations behind so many others
abbrev pub AreNext : FlatDesign → (before : ℕ) → List Query → Type 0
AreNext design before queries =
    (k : ℕ) (query : Query) → slice_get queries k ≡ Some query → IsNext design (before + k) query

-- the obligations of these paths of a target come next behind so many others, and are few enough
pub record ComeNext (design : FlatDesign) (before : ℕ) (found : TargetPaths) : Type 0 where
  pub paths : ArePathsOf design found
  pub among : (k : ℕ) (o : Obligation) → slice_get (obligations_on design found) k ≡ Some o
      → slice_get (asked design) (before + k) ≡ Some o
  pub few : before + length (obligations_on design found) ≤ 65536

-- so many are at the end of a part of the walk that began behind others, and few enough
pub record AreCounted (before count after : ℕ) : Type 0 where
  pub sum : after ≡ before + count
  pub few : after ≤ 65536
