-- The combinational signals that each combinational signal is read for.
use Rattle.std.proofs.Common.{◌≡◌, ℕ, ◌+◌, ◌<◌, ◌≤◌, ◌^◌, Bool, true, false, cond, ◌&&◌, List, []}
use Rattle.std.proofs.Common.{◌∷◌, ◌++◌, length, map, get_or, ⊎_elim, refl, sym, ap, ap₂}
use Rattle.std.proofs.Common.{subst, ◌∙◌}
use Rattle.std.proofs.Common.{zero-add, nat_lt, ltb-true, ltb-false}
use Rattle.std.specs.Prelude.{IsTrue, filter}
use Rattle.std.specs.List.{range_with_len}
use Rattle.std.proofs.lemmas.Bool.{false≢true}
use Rattle.std.proofs.lemmas.List.{get_or_past}
use Rattle.std.proofs.lemmas.List.FromFn.{get_or-map-range_with_len, length-map-range_with_len}
use Rattle.std.proofs.Math.ListN.{length-map}
use Rattle.sv_flat.specs.Design.{FlatDesign}
use Rattle.sv_flat.specs.Loops.{all_differ}
use Rattle.sv_flat.specs.Processes.{signal_numbers}
use Rattle.sv_flat.specs.Reads.{is_combinational, is_read_for, reads_for}
use Rattle.sv_flat.specs.Sets.{holds}
use Rattle.sv_flat.proofs.AdmittedFacts.{and_true}
use Rattle.sv_flat.proofs.Depths.{first_of, second_of, is_below}
use Rattle.sv_flat.proofs.LeastSets.{either_way, holds-from_Contains, Contains-from_holds}
use Rattle.sv_flat.proofs.LeastSets.{those_below, those_pass, in_those}
use Rattle.sv_graph.specs.declared.graphs.Graph.{Graph}
use Rattle.sv_design.specs.declared.orders.SignalReads.{SignalReads}
use Rattle.sv_graph.specs.Graphs.{size, row, rows_of, has_edge}
use Rattle.sv_graph.specs.Graphs.{AddsSources}
use Rattle.sv_graph.specs.Marks.{is_marked, IsTable}
use Rattle.sv_design.specs.Numbers.{numbers}
use Rattle.sv_design.specs.Orders.{AreReads}
use Rattle.sv_graph.proofs.BitFacts.{same_answer}
use Rattle.sv_graph.proofs.Differing.{holds-filter, range_differs, filter_differs}
use Rattle.sv_graph.proofs.ListFacts.{filter_more}

pub marked_within : (table : List Bool) (s : ℕ) → IsTrue (is_marked table s) → s < length table
marked_within table s h = ⊎_elim
    (λ lt. ltb-true s (length table) lt)
    (λ past.
    absurd (false≢true (sym (get_or_past table s false (ltb-false s (length table) past)) ∙ h)))
    (either_way (nat_lt s (length table)))

pub row_from : (design : FlatDesign) (graph : Graph)
    → rows_of graph ≡ map (reads_for design) (signal_numbers design) → (s : ℕ)
    → s < length design.signals
    → row graph s ≡ reads_for design s
row_from design graph is s below =
    ap (λ rows. get_or rows s []) is
    ∙ get_or-map-range_with_len (reads_for design) 0 (length design.signals) s s [] below
    (zero-add s)

-- what such rows say of their graph
module _ (design : FlatDesign) (graph : Graph)
    (is : rows_of graph ≡ map (reads_for design) (signal_numbers design)) where
  abbrev n : ℕ
  n = length design.signals

  pub rows_size : size graph ≡ n
  rows_size =
      sym (length-map graph.rows.items (λ row. numbers row.items))
      ∙ ap length is
      ∙ length-map-range_with_len (reads_for design) 0 n

  pub rows_below : (a b : ℕ) → IsTrue (has_edge graph a b) → b < n
  rows_below a b h = ⊎_elim
      (λ below.
      those_below n (is_read_for design a) b
      (Contains-from_holds (reads_for design a) b
      (ap (λ r. holds r b) (sym (row_from design graph is a (ltb-true a n below))) ∙ h)))
      (λ past.
      absurd (false≢true (sym (ap (λ rows. holds (get_or rows a []) b) is
      ∙ ap (λ r. holds r b)
      (get_or_past (map (reads_for design) (range_with_len 0 n)) a []
      (subst (λ l. l ≤ a) (sym (length-map-range_with_len (reads_for design) 0 n))
      (ltb-false a n past)))) ∙ h)))
      (either_way (nat_lt a n))

module _ (combs : List Bool) (reads : Graph) where
  -- the signals are combinational, and the second is read for the first
  abbrev pub is_reader : (read reader : ℕ) → Bool
  is_reader a b = is_marked combs b && (is_marked combs a && has_edge reads b a)

  -- the readers below a bound
  abbrev pub HasReaders : (readers : Graph) → (bound : ℕ) → Type 0
  HasReaders readers bound =
      (a : ℕ) → row readers a ≡ filter (is_reader a) (range_with_len 0 bound)

  pub readers_below : (readers : Graph) (bound : ℕ) → HasReaders readers bound → (a b : ℕ)
      → IsTrue (has_edge readers a b)
      → b < bound
  readers_below readers bound has a b h =
      those_below bound (is_reader a) b
      (Contains-from_holds (filter (is_reader a) (range_with_len 0 bound)) b
      (ap (λ r. holds r b) (sym (has a)) ∙ h))

  pub reader_more : (old new : Graph) (sources : List ℕ) (to : ℕ) → HasReaders old to
      → sources ≡ filter (λ a. is_marked combs a && is_marked combs to) (row reads to)
      → AddsSources old new sources to
      → HasReaders new (to + 1)
  reader_more old new sources to has is adds a =
      adds (readers_below old to has) a
      ∙ ap₂ (λ xs b. xs ++ cond b (to ∷ []) []) (has a)
      (ap (λ ks. holds ks a) is
      ∙ holds-filter (λ a. is_marked combs a && is_marked combs to) (row reads to) a
      ∙ in_turn (has_edge reads to a) (is_marked combs a) (is_marked combs to))
      ∙ sym (filter_more (is_reader a) to)
    where
      in_turn : (a b c : Bool) → (a && (b && c)) ≡ (c && (b && a))
      in_turn true true true = refl
      in_turn true true false = refl
      in_turn true false true = refl
      in_turn true false false = refl
      in_turn false true true = refl
      in_turn false true false = refl
      in_turn false false true = refl
      in_turn false false false = refl

-- the tables with all readers
pub reads_are : (design : FlatDesign) (tables : SignalReads)
    → IsTable (length design.signals) tables.combs.items (is_combinational design)
    → rows_of tables.reads ≡ map (reads_for design) (signal_numbers design)
    → size tables.readers ≡ size tables.reads → length tables.combs.items ≡ size tables.reads
    → size tables.reads < 2 ^ 32
    → HasReaders tables.combs.items tables.reads tables.readers (size tables.reads)
    → AreReads design tables
reads_are design tables table rows same_size size_is few has =
    let combs = tables.combs.items in
    let graph = tables.reads in
    let n = length design.signals in
    let bound : size graph ≡ n = sym size_is ∙ table.0 in
    let test = is_reader combs graph in record {
      combs_are = table;
      few = subst (λ k. k < 2 ^ 32) bound few;
      reads_are = rows;
      readers_size = same_size ∙ bound;
      readers_are = λ a b. same_answer (has_edge tables.readers a b)
          (is_combinational design a && is_combinational design b && is_read_for design b a)
          (λ h.
          let at = Contains-from_holds (filter (test a) (range_with_len 0 (size graph))) b
          (ap (λ r. holds r b) (sym (has a)) ∙ h) in
          let b_below = subst (λ k. b < k) bound (those_below (size graph) (test a) b at) in
          let passed = those_pass (size graph) (test a) b at in
          let rest = second_of (is_marked combs b) (is_marked combs a && has_edge graph b a)
          passed in
          let a_marked = first_of (is_marked combs a) (has_edge graph b a) rest in
          let a_below = subst (λ k. a < k) table.0 (marked_within combs a a_marked) in
          let reads_a = second_of (is_marked combs a) (has_edge graph b a) rest in
          and_true (is_combinational design a && is_combinational design b)
          (is_read_for design b a)
          (and_true (is_combinational design a) (is_combinational design b)
          (sym (table.1 a a_below) ∙ a_marked)
          (sym (table.1 b b_below)
          ∙ first_of (is_marked combs b) (is_marked combs a && has_edge graph b a) passed))
          (those_pass n (is_read_for design b) a (Contains-from_holds (reads_for design b) a
          (ap (λ r. holds r a) (sym (row_from design graph rows b b_below)) ∙ reads_a))))
          (λ h.
          let both = first_of (is_combinational design a && is_combinational design b)
          (is_read_for design b a) h in
          let a_comb = first_of (is_combinational design a) (is_combinational design b) both in
          let b_comb = second_of (is_combinational design a) (is_combinational design b) both in
          let a_below = is_below design a a_comb in
          let b_below = is_below design b b_comb in
          let reads_a = in_those n (is_read_for design b) a a_below (second_of
          (is_combinational design a && is_combinational design b) (is_read_for design b a) h) in
          ap (λ r. holds r b) (has a)
          ∙ holds-from_Contains (filter (test a) (range_with_len 0 (size graph))) b
          (in_those (size graph) (test a) b (subst (λ k. b < k) (sym bound) b_below)
          (and_true (is_marked combs b) (is_marked combs a && has_edge graph b a)
          (table.1 b b_below ∙ b_comb)
          (and_true (is_marked combs a) (has_edge graph b a) (table.1 a a_below ∙ a_comb)
          (ap (λ r. holds r a) (row_from design graph rows b b_below)
          ∙ holds-from_Contains (reads_for design b) a reads_a)))));
      once = λ a. subst (λ xs. IsTrue (all_differ xs)) (sym (has a))
          (filter_differs (test a) (range_with_len 0 (size graph))
          (range_differs 0 (size graph)));
    }
