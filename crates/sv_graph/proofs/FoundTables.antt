-- What a search found, as a table.
use Rattle.std.proofs.Common.{◌≡◌, ◌<◌, ℕ, Bool, false, List, length, map, get_or, None, Result, Ok}
use Rattle.std.proofs.Common.{Err, sym, ap, subst, ◌∙◌}
use Rattle.std.specs.Prelude.{is_some, IfOk}
use Rattle.std.proofs.lemmas.List.{get_or-map}
use Rattle.std.proofs.Math.ListN.{length-map}
use Rattle.sv_flat.specs.Sets.{holds, least_set}
use Rattle.sv_graph.specs.declared.searches.Search.{Search}
use Rattle.sv_graph.specs.Marks.{IsTable}
use Rattle.sv_graph.specs.Searches.{IsSearch}

pub search_table : (n : ℕ) (brings : ℕ → ℕ → Bool) (starts : List ℕ) (search : Search)
    (table : List Bool) → IsSearch n brings starts search
    → table ≡ map is_some search.places.items → IsTable n table (holds (least_set n brings starts))
search_table n brings starts search table found is =
    let places = search.places.items in (
      ap length is ∙ length-map places is_some ∙ found.ended.size,
      λ k below. ap (λ t. get_or t k false) is
          ∙ get_or-map is_some places k None false
          (subst (λ m. k < m) (sym found.ended.size) below)
          ∙ found.has k below,
    )

-- what holds of a value holds by what follows from it
pub if_ok : {X E : Type 0} (P Q : X → Type 0) (r : Result X E) → ((x : X) → P x → Q x) → IfOk r P →
    IfOk r Q
if_ok P Q (Ok x) f h = f x h
if_ok P Q (Err e) f h = tt
