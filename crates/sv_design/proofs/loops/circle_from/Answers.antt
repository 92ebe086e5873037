use Rattle.std.proofs.Common.{◌≡◌, ◌<◌, ℕ, List, [], ◌∷◌, length, get_or, Option, Some, None, Vec}
use Rattle.std.proofs.Common.{Global, Bor, refl, rules, tests, sym, ap, subst, ◌∙◌, arith}
use Rattle.std.specs.Prelude.{IsTrue, IsFalse, Contains, is_some}
use Rattle.std.proofs.lemmas.Iterator.{YieldsList-from_slice}
use Rattle.std.proofs.lemmas.Iterator.Adapters.{serves_from_places}
use Rattle.std.proofs.lemmas.List.{get_or_default}
use Rattle.std.specs.Fn.{Called}
use Rattle.std.specs.Iterator.Runs.{CallKeepsClosure}
use Rattle.std.specs.Slice.Iter.{iter_rest}
use Rattle.std.specs.declared.slice.Iter.{Iter}
use Rattle.sv_system.proofs.Lists.{Contains-map, Contains-from_map}
use Rattle.sv_flat.specs.declared.signals.SigId.{SigId}
use Rattle.sv_flat.specs.Design.{FlatDesign}
use Rattle.sv_flat.specs.Reads.{is_read_for, reads_for}
use Rattle.sv_design.specs.declared.orders.SignalReads.{SignalReads}
use Rattle.sv_graph.specs.declared.searches.Search.{Search}
use Rattle.sv_graph.specs.Graphs.{size}
use Rattle.sv_graph.specs.Marks.{is_marked}
use Rattle.sv_design.specs.Numbers.{numbers}
use Rattle.sv_design.specs.Orders.{AreReads}
use Rattle.sv_graph.specs.Searches.{IsSearch, found_by, place_of, is_found}
use Rattle.sv_design.proofs.CircleFacts.{over, readers_whole, is_candidate}
use Rattle.sv_design.proofs.CircleFacts.{candidate_inside, reads_size, row_reads, read_inside}
use Rattle.sv_design.proofs.CircleFacts.{is_read, leads_down, way_is_circle, no_circle_from}
use Rattle.sv_design.proofs.FindMap.{Finds, Searched, finds}
use Rattle.sv_graph.proofs.GraphFacts.{row_is}
use Rattle.sv_design.proofs.loops.circle_from.Goals as goal
use denote.Param.Members.{Mut}

-- the answer of a search for a place of a read of the first signal: there is one, or none was found
abbrev Tells : FlatDesign → (first : ℕ) → Search → Option ℕ → Type 0
Tells design first readers None =
    (t : ℕ) → Contains (reads_for design first) t → IsFalse (is_found readers t)
Tells design first readers (Some place) =
    (place < length (found_by readers))
    × IsTrue (is_read_for design first (get_or (found_by readers) place 0))

-- the reads of the first signal, as a row of the table has them
module _ (design : FlatDesign) (reads : SignalReads) (are : AreReads design reads) (first : ℕ)
    (marked : IsTrue (is_marked reads.combs.items first)) where
  reads_inside : first < size reads.reads
  reads_inside =
      subst (λ m. first < m) (sym (reads_size design reads are))
      (candidate_inside design reads are first marked)

  module _ (row : Vec SigId Global) (signals : List SigId)
      (at_first : row ≡ get_or reads.reads.rows.items first row) (same : signals ≡ row.items) where
    row_numbers : numbers signals ≡ reads_for design first
    row_numbers =
        ap numbers same
        ∙ row_is reads.reads first row reads_inside at_first
        ∙ row_reads design reads are first (candidate_inside design reads are first marked)

    -- one of them, and its place in the table of a search from the first signal
    module _ (s : SigId) (at : Contains signals s) where
      member : Contains (reads_for design first) s.0
      member =
          subst (λ ks. Contains ks s.0) row_numbers
          (Contains-map (λ (x : SigId). x.0) signals s at)

      has_place : (readers : Search)
          → IsSearch (size reads.readers) (over reads first) (first ∷ []) readers
          → s.0 < length readers.places.items
      has_place readers searched =
          subst (λ m. s.0 < m) (sym searched.ended.size)
          (read_inside design reads are first s.0 member)

    module _ (readers : Search)
        (searched : IsSearch (size reads.readers) (over reads first) (first ∷ []) readers) where
      abbrev placed : SigId → Option ℕ
      placed s = place_of readers s.0

      told : (r : Option ℕ) → Finds placed signals r → Tells design first readers r
      told None none = λ t at.
          let from = Contains-from_map (λ (x : SigId). x.0) signals t
          (subst (λ ks. Contains ks t) (sym row_numbers) at) in
          subst (λ k. IsFalse (is_found readers k)) from.2 (ap is_some (none from.0 from.1))
      told (Some place) (s, at, is) =
          let here = searched.ended.known s.0 place is in (
            here.0,
            subst (λ k. IsTrue (is_read_for design first k)) (sym here.1)
                (is_read design reads are first s.0 (member s at)),
          )

      first_told : {F : Type 0} {g : Mut F (Bor SigId × Unit {0}) (Option ℕ)} {i : Iter SigId}
          (f : F) → CallKeepsClosure g f
          → ((x : Bor SigId) (o : Option ℕ) → Called g f (x, tt) o f
          → o ≡ get_or readers.places.items x.now.0 o)
          → iter_rest i ≡ signals → (r : Option ℕ) → Searched g f i r
          → Tells design first readers r
      first_told f keeps gives rest r ran =
          told r (finds placed signals f keeps
          (λ x o at called.
          get_or_default readers.places.items x.now.0 None o (has_place x.now at readers searched)
          ∙ sym (gives x o called)) rest r ran)

pub search_from-requires-clause-whole : goal.search_from-requires-clause-whole
search_from-requires-clause-whole c =
    readers_whole c.requires.tables.0 c.args.reads.now c.requires.tables.1

pub index-requires : goal.index-requires
index-requires c =
    let inside = reads_inside c.requires.tables.0 c.args.reads.now c.requires.tables.1
    c.args.first.0 c.requires.first in
    omega arith

pub find_map-found-requires-clause-callable : goal.find_map-found-requires-clause-callable
find_map-found-requires-clause-callable c =
    let reads = c.args.reads.now in
    let first = c.args.first.0 in
    let signals = c.as_slice-row.result.now in
    serves_from_places (YieldsList-from_slice signals cc) (λ x q k. search rules)
    (λ x k small is.
    let has = has_place c.requires.tables.0 reads c.requires.tables.1 first c.requires.first
    c.index.result.now signals c.index.ensures c.as_slice-row.ensures.value x.now
    (k, small, sym is) c.in_ok-readers.readers
    (c.in_ok-readers.ensures (over reads first) (λ a b. refl)) in
    search (rules, has))

pub returns-in_default : goal.returns-in_default
returns-in_default c = λ design are.
    let reads = c.args.reads.now in
    let first = c.args.first.0 in
    let readers = c.in_ok-readers.readers in
    let searched = c.in_ok-readers.ensures (over reads first) (λ a b. refl) in
    no_circle_from design reads are first (is_candidate design reads are first c.requires.first)
    readers searched
    (subst (Tells design first readers) c.in_default.is
    (first_told design reads are first c.requires.first c.index.result.now
    c.as_slice-row.result.now c.index.ensures c.as_slice-row.ensures.value readers searched _
    (λ a r q k. search rules) (λ x o k. search (rules, tests)) (cc) c.find_map-found.result
    c.find_map-found.ensures.runs))

pub circle_of-requires-clause-place : goal.circle_of-requires-clause-place
circle_of-requires-clause-place c =
    let design = c.requires.tables.0 in
    let are = c.requires.tables.1 in
    let reads = c.args.reads.now in
    let first = c.args.first.0 in
    let readers = c.in_ok-readers.readers in
    (subst (Tells design first readers) c.in-Some.is
    (first_told design reads are first c.requires.first c.index.result.now
    c.as_slice-row.result.now c.index.ensures c.as_slice-row.ensures.value readers
    (c.in_ok-readers.ensures (over reads first) (λ a b. refl)) _
    (λ a r q k. search rules) (λ x o k. search (rules, tests)) (cc) c.find_map-found.result
    c.find_map-found.ensures.runs)).0

pub circle_of-requires-clause-falls : goal.circle_of-requires-clause-falls
circle_of-requires-clause-falls c =
    let reads = c.args.reads.now in
    let first = c.args.first.0 in
    leads_down _ reads c.requires.tables.1 first
    (is_candidate _ reads c.requires.tables.1 first c.requires.first)
    c.in_ok-readers.readers (c.in_ok-readers.ensures (over reads first) (λ a b. refl))

pub returns : goal.returns
returns c = λ design are.
    let reads = c.args.reads.now in
    let first = c.args.first.0 in
    let readers = c.in_ok-readers.readers in
    let searched = c.in_ok-readers.ensures (over reads first) (λ a b. refl) in
    let told = subst (Tells design first readers) c.in-Some.is
    (first_told design reads are first c.requires.first c.index.result.now
    c.as_slice-row.result.now c.index.ensures c.as_slice-row.ensures.value readers searched _
    (λ a r q k. search rules) (λ x o k. search (rules, tests)) (cc) c.find_map-found.result
    c.find_map-found.ensures.runs) in
    let back = c.in_ok-circle_of.ensures in (
      back.0,
      back.1,
      way_is_circle design reads are first
          (is_candidate design reads are first c.requires.first)
          readers searched back.0 c.in-Some.place told.0 back.2 told.1,
    )
