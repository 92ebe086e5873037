-- A target by its number in the design, and the trails through the body of the process that drives
-- it.
use Rattle.std.proofs.Common.{◌≡◌, ℕ, ◌+◌, ◌<◌, Bool, true, false, cond, nat_lt, List}
use Rattle.std.proofs.Common.{reverse, All}
use Rattle.std.proofs.Common.{[], ◌∷◌, length, map, flat_map, get_or, Option, Some, None, refl, sym, ap}
use Rattle.std.proofs.Common.{ap₂, subst, ◌∙◌, append-nil}
use Rattle.std.specs.Prelude.{Contains, IsTrue}
use Rattle.std.specs.List.{list_any}
use Rattle.std.proofs.lemmas.Bool.{false≢true}
use Rattle.sv_system.proofs.Lists.{map_map}
use Rattle.sv_flat.specs.Admission.{IsAdmitted}
use Rattle.sv_flat.specs.Clocks.{processes_of}
use Rattle.sv_flat.specs.Design.{FlatStatement}
use Rattle.sv_flat.specs.Design.{ProcessForm, ProcessKind, combinational, FlatDesign}
use Rattle.sv_flat.specs.Processes.{is_clocked, is_block}
use Rattle.sv_flat.specs.Readings.{no_bits}
use Rattle.sv_flat.specs.SignalLists.{driver_of}
use Rattle.sv_flat.specs.Soundness.{sound, is_signal}
use Rattle.sv_obl.specs.declared.marked.Marked.{Marked}
use Rattle.sv_paths.specs.Alongs.{WayForm, open_way, along, trail_obligation}
use Rattle.sv_paths.specs.Alongs.{conditions_along, is_large_trail}
use Rattle.sv_paths.specs.RouteObligations.{excess_by}
use Rattle.sv_paths.specs.Answers.{excess_at}
use Rattle.sv_paths.specs.ListLines.{step_word}
use Rattle.sv_paths.specs.Limits.{Excess, many_paths, large_path, many_obligations}
use Rattle.sv_obl.specs.MarkedBodies.{marked_statement, IsMarkedOf}
use Rattle.sv_obl.specs.Obligations.{flow, is_link, frame_of, path_obligation, target_obligations}
use Rattle.sv_obl.specs.Paths.{Path, step_with, paths}
use Rattle.sv_paths.specs.Trails.{TrailForm, open_trail, trails_before}
use Rattle.sv_obl.specs.Wanted.{closed_tree, marked}
use Rattle.sv_paths.specs.Written.{mark_word}
use Rattle.sv_paths.proofs.SameWalks.{same_trails, same_along}
use Rattle.sv_paths.proofs.TargetFacts.{driver_there, driver_alone, paths_are}
use Rattle.sv_paths.proofs.TrailDesigns.{marked_pieces, marked_signals}
use Rattle.sv_paths.proofs.TrailObligations.{target_is, target_large, target_count, target_marks}
use Rattle.sv_paths.proofs.TrailObligations.{target_names}
use Rattle.sv_paths.proofs.TrailTells.{mark_of}

unclocked_block : (kind : ProcessKind) → is_block kind ≡ true → is_clocked kind ≡ false
unclocked_block combinational is = refl
unclocked_block kind is = absurd (false≢true is)

-- ---- one target

module _ (design : FlatDesign) (is_sound : IsTrue (sound design)) (admitted : IsAdmitted design)
    (s : ℕ) (known : IsTrue (is_signal design.signals s)) (k : ℕ) (p : ProcessForm)
    (driven : driver_of design s ≡ Some k) (there : get_or (processes_of design) k p ≡ p)
    (x : Marked)
    (is : IsMarkedOf (marked design.signals (is_block p.kind) p.body no_bits) x)
    (block : is_block p.kind ≡ true) where
  abbrev body : FlatStatement
  body = marked design.signals (is_block p.kind) p.body no_bits

  abbrev trails : List TrailForm
  trails = trails_before design.signals s (marked_statement x) (open_trail s)

  at : Contains (processes_of design) p
  at = driver_there design is_sound admitted s known k p driven there

  unclocked : is_clocked p.kind ≡ false
  unclocked = unclocked_block p.kind block

  trails_are : trails ≡ trails_before design.signals s body (open_trail s)
  trails_are = same_trails design.signals s (marked_statement x) body is.parts (open_trail s)

  walks_are : (t : TrailForm)
      → along design.signals s (marked_statement x) (open_way s t.choices)
      ≡ along design.signals s body (open_way s t.choices)
  walks_are t =
      same_along design.signals s (marked_statement x) body is.parts (open_way s t.choices)

  -- the limits by the number of paths and whether one is large
  abbrev excess_of : (total count : ℕ) → Bool → Option Excess
  excess_of total count large =
      cond (nat_lt 4096 count) (Some (many_paths s))
      (cond large (Some (large_path s))
      (cond (nat_lt 65536 (total + count)) (Some many_obligations) None))

  pub trails_excess_same : (total : ℕ)
      → excess_by is_large_trail s total trails ≡ excess_at design total s
  trails_excess_same total =
      ap (excess_by is_large_trail s total) trails_are
      ∙ sym (
      ap (λ found. excess_of total (length found) (list_any (λ (path : Path).
      nat_lt 65536 path.nodes) found))
      (paths_are design is_sound admitted s known k p driven there)
      ∙ ap₂ (excess_of total)
      (target_count design p s unclocked (marked_pieces design is_sound admitted p at)
      (marked_signals design is_sound admitted p at))
      (target_large design p s unclocked (marked_pieces design is_sound admitted p at)
      (marked_signals design is_sound admitted p at)))

  same_walk : (t : TrailForm)
      → trail_obligation design.signals p s (marked_statement x) t
      ≡ trail_obligation design.signals p s body t
  same_walk t = ap (λ (way : WayForm). record {
    facts = [];
    path = reverse (map (step_with (closed_tree design.signals false)) way.steps);
    right = cond (is_link p.kind) (Some p.place) t.place;
    reads = t.names.settled;
    goal = flow s (frame_of p.kind);
  }) (walks_are t)

  all_walks : (ts : List TrailForm)
      → map (trail_obligation design.signals p s (marked_statement x)) ts
      ≡ map (trail_obligation design.signals p s body) ts
  all_walks [] = refl
  all_walks (t ∷ ts) = ap₂ (λ a b. a ∷ b) (same_walk t) (all_walks ts)

  pub trails_listed : map (trail_obligation design.signals p s (marked_statement x)) trails
      ≡ target_obligations [] design s
  trails_listed =
      ap (map (trail_obligation design.signals p s (marked_statement x))) trails_are
      ∙ all_walks (trails_before design.signals s body (open_trail s))
      ∙ sym (
      ap (flat_map (λ (q : ProcessForm).
      map (path_obligation [] design q s) (paths design.signals s q.kind q.body)))
      (driver_alone design is_sound admitted s known k p driven there)
      ∙ append-nil (map (path_obligation [] design p s) (paths design.signals s p.kind p.body))
      ∙ target_is design p s unclocked (marked_pieces design is_sound admitted p at)
      (marked_signals design is_sound admitted p at))

  -- the lines of the trails are those of their obligations
  pub trail_words_are : (t : TrailForm) → Contains trails t
      → map step_word (conditions_along design.signals s (marked_statement x) t)
      ≡ map mark_word (reverse t.marks)
  trail_words_are t among =
      ap (λ (way : WayForm). map step_word
      (reverse (map (step_with (closed_tree design.signals false)) way.steps)))
      (walks_are t)
      ∙ sym (map_map mark_word mark_of (conditions_along design.signals s body t))
      ∙ ap (map mark_word)
      (target_marks design p s unclocked (marked_pieces design is_sound admitted p at)
      (marked_signals design is_sound admitted p at) t
      (subst (λ ts. Contains ts t) trails_are among))

  pub trail_names_are : (t : TrailForm) → Contains trails t →
      All (λ i. i < length design.signals) t.names.settled
  trail_names_are t among =
      target_names design p s unclocked (marked_pieces design is_sound admitted p at)
      (marked_signals design is_sound admitted p at) t
      (subst (λ ts. Contains ts t) trails_are among)
