use Rattle.std.proofs.Common.{◌≡◌, ◌<◌, ℕ, List, ◌++◌, ◌∷◌, [], set, get_or, length, length-set}
use Rattle.std.proofs.Common.{Some, ap, ◌∙◌, arith}
use Rattle.std.specs.List.{swap_remove}
use Rattle.std.proofs.lemmas.List.{get_or_read}
use Rattle.sv_solve.specs.Codes.{code_of}
use Rattle.sv_solve.specs.Watching.{Watching, watching_list, pair_at, ArePair}
use Rattle.sv_solve.specs.declared.watches.Pair.{Pair}
use Rattle.sv_solve.proofs.Watched.{place_below, code_small, list_read, place_pair, rewatched_list}
use Rattle.sv_solve.proofs.Watched.{listed_rewatched}
use Rattle.sv_solve.proofs.watches.Watches.rewatch.Goals as goal
use Rattle.sv_solve.proofs.watches.Watches.rewatch.Goals.{After-at-place, After-swap_remove}
use Rattle.sv_solve.proofs.watches.Watches.rewatch.Goals.{After-index_mut-3}

place_is : (c : After-at-place) →
    c.at-place.result ≡ get_or (watching_list c.args.self.now c.args.falsified.now) c.args.index 0
place_is c =
    c.at-place.ensures
    ∙ ap (λ z. get_or z c.args.index 0)
    (list_read c.self.inside.lists.items c.args.self.now c.args.falsified.now c.index-code.result
    (ap (λ z. z.lists) c.self.view_is) c.requires.listed c.requires.falsified
    c.index-code.ensures c.index.result.now c.index.ensures)

-- the lists after the push
middle_of : After-swap_remove → List (List ℕ)
middle_of c = set c.self.inside.lists.items c.index-2.result c.push.new.self

middle_is : (c : After-swap_remove) → middle_of c ≡ set c.args.self.now.lists (code_of c.args.pair.one)
    (get_or c.args.self.now.lists (code_of c.args.pair.one) []
    ++ get_or (watching_list c.args.self.now c.args.falsified.now) c.args.index 0 ∷ [])
unfolding middle_of
middle_is c =
    let old = c.args.self.now in
    let place : c.at-place.result
    ≡ get_or (watching_list old c.args.falsified.now) c.args.index 0 =
    place_is (goal.at.After-swap_remove c).After-at-place in
    let lists : c.self.inside.lists.items ≡ old.lists = ap (λ z. z.lists) c.self.view_is in
    let below : c.index-2.result < length c.self.inside.lists.items =
    code_small c.self.inside.lists.items old c.args.pair.one c.index-2.result lists
    c.requires.listed c.requires.one.1 c.index-2.ensures in
    let read : c.index_mut.result.now ≡ get_or c.self.inside.lists.items c.index-2.result [] =
    get_or_read c.self.inside.lists.items c.index-2.result c.index_mut.result.now below
    c.index_mut.ensures.value [] in
    cc (lists, read, place, c.in_ok-push.ensures, c.index-2.ensures)

lists_are : (c : After-swap_remove) →
    set (middle_of c) c.index-code.result c.swap_remove.new.self ≡
    set (middle_of c) (code_of c.args.falsified.now)
    (swap_remove (get_or (middle_of c) (code_of c.args.falsified.now) []) c.args.index 0)
unfolding middle_of
lists_are c =
    let old = c.args.self.now in
    let size : length (middle_of c) ≡ length c.self.inside.lists.items =
    length-set c.self.inside.lists.items c.index-2.result c.push.new.self in
    let small = code_small c.self.inside.lists.items old c.args.falsified.now c.index-code.result
    (ap (λ z. z.lists) c.self.view_is) c.requires.listed c.requires.falsified
    c.index-code.ensures in
    let read : c.index_mut-2.result.now ≡ get_or (middle_of c) c.index-code.result [] =
    get_or_read (middle_of c) c.index-code.result c.index_mut-2.result.now
    (omega (arith, size, small)) c.index_mut-2.ensures.value [] in
    cc (read, c.swap_remove.ensures, c.index-code.ensures)

-- the pair that stood at the place
held_pair : (c : After-swap_remove) → (was : Pair)
    × (pair_at c.args.self.now.pairs
    (get_or (watching_list c.args.self.now c.args.falsified.now) c.args.index 0) ≡ Some was)
    × ArePair was c.args.falsified.now c.args.pair.other
held_pair c =
    place_pair c.args.self.now c.args.falsified.now c.args.index c.requires.listed
    c.requires.falsified c.requires.index
    (λ was. ArePair was c.args.falsified.now c.args.pair.other) c.requires.other

pub index_mut-requires-3 : goal.index_mut-requires-3
index_mut-requires-3 c =
    let place = place_is (goal.at.index_mut-requires-3 c).After-at-place in
    let below = place_below c.args.self.now c.args.falsified.now c.args.index c.requires.listed
    c.requires.falsified c.requires.index in
    omega (arith, place, below, ap (λ z. length z.pairs) c.self.view_is, c.self.inside.pairs.ok.0)

pub returns-clause-list : goal.returns-clause-list
unfolding middle_of
returns-clause-list c =
    let s = (goal.at.returns-clause-list c).After-swap_remove in
    let was = held_pair s in
    let new : Watching =
    record {
      pairs = c.self.inside.pairs.items;
      lists = set (middle_of s) c.index-code.result c.swap_remove.new.self;
      variables = c.self.inside.variables;
    } in
    rewatched_list c.args.self.now new c.args.falsified.now c.args.index was.0 c.args.pair c.requires.listed
    c.requires.falsified c.requires.index c.requires.one.1 c.requires.one.0 was.1 was.2
    (middle_of s) (middle_is s) (lists_are s)

pub returns-clause-listed : goal.returns-clause-listed
unfolding middle_of
returns-clause-listed c =
    let s = (goal.at.returns-clause-listed c).After-swap_remove in
    let old = c.args.self.now in
    let was = held_pair s in
    let place = place_is (goal.at.returns-clause-listed c).After-at-place in
    listed_rewatched old _ c.args.falsified.now c.args.index was.0 c.args.pair c.requires.listed
    c.requires.falsified c.requires.index c.requires.one.1 c.requires.one.0 was.1 was.2
    (middle_of s) (middle_is s) (lists_are s)
    (ap (λ z. set c.self.inside.pairs.items z (Some c.args.pair)) place
    ∙ ap (λ z. set z.pairs (get_or (watching_list old c.args.falsified.now) c.args.index 0)
    (Some c.args.pair)) c.self.view_is)
    (ap (λ z. z.variables) c.self.view_is)
