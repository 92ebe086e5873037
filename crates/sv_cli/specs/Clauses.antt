-- Private: how the code goes. How an obligation is looked for, target by target.
use Rattle.std.specs.Prelude.{◌≡◌, ◌≤◌, ℕ, Option, Some, None, slice_get}
use Rattle.sv_flat.specs.Design.{FlatDesign}
use Rattle.sv_obl.specs.Asked.{asked}
use Rattle.sv_obl.specs.DesignQueries.{IsQueryOf}
use Rattle.sv_paths.specs.ListParts.{IsAt}
use Rattle.sv_obl.specs.Views.{obligation_of}
use Rattle.sv_paths.specs.declared.list_parts.Listing.{Listing}
use Rattle.sv_obl.specs.declared.queries.Query.{Query}

-- The obligation behind so many others was found; or none of those before this target is it, and
-- the target comes next.
abbrev pub IsFoundOrNext : FlatDesign → (target before : ℕ) → Listing → Option Query → Type 0
IsFoundOrNext design target before listing (Some query) =
    (slice_get (asked design) before ≡ Some (obligation_of query))
    × IsQueryOf design (obligation_of query)
IsFoundOrNext design target before listing None =
    IsAt design target listing × (listing.count ≤ before)
