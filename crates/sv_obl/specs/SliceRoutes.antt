-- Private: how the code goes. Routes through slices; which paths a target has stands in `Paths`.
use Rattle.std.specs.Prelude.{◌≡◌, ℕ, Bool, true, false, ◌&&◌, not, if◌then◌else◌, List, [], ◌∷◌}
use Rattle.std.specs.Prelude.{◌++◌, map, flat_map}
use Rattle.sv_flat.specs.Design.{SignalForm, FlatStatement}
use Rattle.sv_flat.specs.Views.{typed_tree}
use Rattle.sv_flat.specs.Assigned.{assigns}
use Rattle.sv_obl.specs.BodySlices.{sliced, in_sequence, slice_statement}
use Rattle.sv_obl.specs.declared.body_slices.BodySlice.{BodySlice}
use Rattle.sv_obl.specs.declared.body_slices.BodySlice as slice
use Rattle.sv_obl.specs.Routes.{RouteForm, behind, with_right, routes_before}
use Rattle.sv_obl.specs.Views.{piece_forms}

abbrev pub is_nothing : BodySlice → Bool
is_nothing slice.Nothing = true
is_nothing _ = false

-- the routes that a route becomes where a slice is taken before it
abbrev pub slice_routes : List SignalForm → (target : ℕ) → BodySlice → RouteForm → List RouteForm
slice_routes signals s slice.Nothing route = route ∷ []
slice_routes signals s (slice.Assign pieces place blocking value) route =
    if route.wants
    then with_right signals s (piece_forms pieces.now) (typed_tree value.now) route
    else route ∷ []
slice_routes signals s (slice.Chain' p first q second) route =
    flat_map (slice_routes signals s first) (slice_routes signals s second route)
slice_routes signals s (slice.Branch' place cond p first q second) route =
    let condition = typed_tree cond.now in
    if route.wants
    then map (behind (record { place = place; condition = condition; truth = true }))
    (slice_routes signals s first route)
    ++ map (behind (record { place = place; condition = condition; truth = false }))
    (slice_routes signals s second route)
    else route ∷ []

-- the slice of a statement for a target has its parts and routes, and is nothing where it does not
-- assign it
pub record IsSliceOf (s : ℕ) (statement : FlatStatement) (c : BodySlice) : Type 0 where
  pub nothing : is_nothing c ≡ not (assigns statement s)
  pub parts : (rest : FlatStatement) →
      in_sequence (slice_statement c) rest ≡ in_sequence (sliced s statement) rest
  pub routes : (signals : List SignalForm) (route : RouteForm) →
      slice_routes signals s c route ≡ routes_before signals s statement route

-- one slice goes as two one after the other
pub record IsChain (first second whole : BodySlice) : Type 0 where
  pub nothing : is_nothing whole ≡ (is_nothing first && is_nothing second)
  pub parts : (rest : FlatStatement) → in_sequence (slice_statement whole) rest
      ≡ in_sequence (slice_statement first) (in_sequence (slice_statement second) rest)
  pub routes : (signals : List SignalForm) (s : ℕ) (route : RouteForm) →
      slice_routes signals s whole route
      ≡ flat_map (slice_routes signals s first) (slice_routes signals s second route)

-- the routes that a route becomes where slices one after the other are taken before it
abbrev pub chain_routes : List SignalForm → (target : ℕ) → List BodySlice → RouteForm →
    List RouteForm
chain_routes signals s [] route = route ∷ []
chain_routes signals s (c ∷ cs) route =
    flat_map (slice_routes signals s c) (chain_routes signals s cs route)

-- the parts of slices one after the other, and then the rest
abbrev pub chain_parts : List BodySlice → (rest : FlatStatement) → FlatStatement
chain_parts [] rest = rest
chain_parts (c ∷ cs) rest = in_sequence (slice_statement c) (chain_parts cs rest)

abbrev pub all_nothing : List BodySlice → Bool
all_nothing [] = true
all_nothing (c ∷ cs) = is_nothing c && all_nothing cs

-- slices one after the other go as the slice of a statement
pub record AreSlicesOf (s : ℕ) (statement : FlatStatement) (cs : List BodySlice) : Type 0 where
  pub nothing : all_nothing cs ≡ not (assigns statement s)
  pub parts : (rest : FlatStatement) →
      chain_parts cs rest ≡ in_sequence (sliced s statement) rest
  pub routes : (signals : List SignalForm) (route : RouteForm) →
      chain_routes signals s cs route ≡ routes_before signals s statement route

-- some go as others and then one more
pub record EndsIn (all front : List BodySlice) (last : BodySlice) : Type 0 where
  pub nothing : all_nothing all ≡ (all_nothing front && is_nothing last)
  pub parts : (rest : FlatStatement) →
      chain_parts all rest ≡ chain_parts front (in_sequence (slice_statement last) rest)
  pub routes : (signals : List SignalForm) (s : ℕ) (route : RouteForm) →
      chain_routes signals s all route
      ≡ flat_map (chain_routes signals s front) (slice_routes signals s last route)
