-- Tables of signals that are marked process by process.
use Rattle.std.proofs.Common.{◌≡◌, ℕ, ◌+◌, ◌<◌, ◌≤◌, Bool, false, ◌||◌, List, ◌++◌, length, map}
use Rattle.std.proofs.Common.{take, drop, get_or, replicate, sym, ap, subst, ◌∙◌}
use Rattle.std.specs.List.{list_any}
use Rattle.std.proofs.lemmas.List.{at_drop_all, length-replicate}
use Rattle.std.proofs.Math.ListN.{length-map}
use Rattle.sv_flat.specs.declared.designs.Flat.{Flat}
use Rattle.sv_flat.specs.declared.designs.Process.{Process}
use Rattle.sv_flat.specs.Design.{ProcessForm}
use Rattle.sv_flat.specs.Views.{design_of, process_form, signal_form}
use Rattle.sv_graph.specs.Marks.{is_marked, Marks, IsTable}
use Rattle.sv_graph.proofs.ListFacts.{any_more}
use Rattle.sv_graph.proofs.MarkFacts.{MarksSoFar, marks_more, marks_end}
use Rattle.sv_rules.proofs.TableFacts.{written_back, from_nothing}

-- a table that began without marks, and a slice of it
pub slice_size : (flat : Flat) (old items slice : List Bool)
    → old ≡ replicate (length flat.signals.items) false → length items ≡ length old → slice ≡ items
    → length (design_of flat).signals ≡ length slice
slice_size flat old items slice begun size same =
    length-map flat.signals.items signal_form
    ∙ sym (length-replicate (length flat.signals.items) false)
    ∙ sym (ap length begun) ∙ sym size ∙ sym (ap length same)

-- what each process marks
module _ (flat : Flat) (test : ProcessForm → ℕ → Bool) where
  -- what some processes mark
  abbrev marked_by : List ProcessForm → ℕ → Bool
  marked_by ps s = list_any (λ p. test p s) ps

  -- all is left at first
  pub all_left : (old : List Bool) (processes : List Process) → processes ≡ flat.processes.items
      → MarksSoFar old old (marked_by (map process_form flat.processes.items))
      (marked_by (map process_form processes))
  all_left old processes same s below =
      ap (λ ps. is_marked old s || marked_by (map process_form ps) s) same

  module _ (old : List Bool) (processes : List Process) where
    -- the table as it is, where the processes from this one on are left
    abbrev Left : List Bool → ℕ → Type 0
    Left now i = (length now ≡ length old)
        × MarksSoFar old now (marked_by (map process_form flat.processes.items))
        (marked_by (map process_form (drop i processes)))

    -- one process more, which marks a slice that is written back
    pub marks_next : (items slice new : List Bool) (n i : ℕ) (process : Process) → Left items i
        → length items ≡ n → slice ≡ items → length new ≡ length slice
        → i < length processes → process ≡ get_or processes i process
        → Marks slice new (test (process_form process))
        → Left (take n (new ++ drop (length new) items)) (i + 1)
    marks_next items slice new n i process left count same kept inside is marks =
        let size = kept ∙ ap length same in
        subst (λ t. Left t (i + 1)) (sym (written_back new items n size count)) (
          size ∙ left.0,
          marks_more old items new (marked_by (map process_form flat.processes.items))
              (marked_by (map process_form (drop i processes))) (test (process_form process))
              (marked_by (map process_form (drop (i + 1) processes))) left.0
              (λ s. any_more process_form (λ p. test p s) processes i process inside is)
              (subst (λ t. Marks t new (test (process_form process))) same marks) left.1,
        )

    -- none is left
    pub all_marked : (now : List Bool) (i : ℕ) → Left now i → length processes ≤ i
        → old ≡ replicate (length flat.signals.items) false
        → IsTable (length flat.signals.items) now
        (marked_by (map process_form flat.processes.items))
    all_marked now i left past begun =
        let all = marked_by (map process_form flat.processes.items) in
        from_nothing (length flat.signals.items) now all
        (subst (λ t. Marks t now all) begun
        (marks_end old now all (marked_by (map process_form (drop i processes)))
        (λ s. at_drop_all (λ ps. marked_by (map process_form ps) s) processes i past) left.1))
        (left.0 ∙ ap length begun ∙ length-replicate (length flat.signals.items) false)
