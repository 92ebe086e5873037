-- A target by its number in the design, and its paths through the process that drives it, whose
-- body is given with its earlier reads wanted.
use Rattle.std.proofs.Common.{◌≡◌, ℕ, ◌<◌, List, length, map, get_or, ◌∙◌}
use Rattle.std.proofs.Common.{Option, Some, None, ap, ap₂, subst}
use Rattle.std.specs.Prelude.{IsTrue, Contains}
use Rattle.std.specs.List.{AllZip}
use Rattle.sv_flat.specs.ByNumber.{signal_forms}
use Rattle.sv_flat.specs.Clocks.{processes_of}
use Rattle.sv_flat.specs.Design.{ProcessForm, FlatDesign}
use Rattle.sv_flat.specs.Processes.{is_block}
use Rattle.sv_flat.specs.Readings.{no_bits}
use Rattle.sv_flat.specs.SignalLists.{driver_of}
use Rattle.sv_flat.specs.Soundness.{is_signal}
use Rattle.sv_flat.specs.Views.{design_of, process_form}
use Rattle.sv_flat.specs.declared.designs.Flat.{Flat}
use Rattle.sv_flat.specs.declared.designs.Process.{Process}
use Rattle.sv_flat.specs.declared.signals.Signal.{Signal}
use Rattle.sv_flat.proofs.AdmittedFacts.{body_is_sound}
use Rattle.sv_design.specs.Designs.{IsDesign}
use Rattle.sv_rules.proofs.Sound.{few_bits}
use Rattle.sv_obl.specs.declared.marked.Marked.{Marked}
use Rattle.sv_paths.specs.declared.targets.Paths.{Paths}
use Rattle.sv_paths.specs.declared.targets.Paths.TheVariants.{Routes, Trails}
use Rattle.sv_paths.specs.declared.trails.Trail.{Trail}
use Rattle.sv_paths.specs.Alongs.{trail_obligation, is_large_trail}
use Rattle.sv_paths.specs.Answers.{excess_at}
use Rattle.sv_paths.specs.Driven.{CanWalk, AreTrails, ArePaths, ArePathsWalked}
use Rattle.sv_obl.specs.MarkedBodies.{marked_statement, IsMarkedBody}
use Rattle.sv_paths.specs.RouteObligations.{excess_by}
use Rattle.sv_paths.specs.Trails.{TrailForm, open_trail, trails_before}
use Rattle.sv_paths.specs.TrailViews.{trail_forms}
use Rattle.sv_obl.specs.Wanted.{marked}
use Rattle.sv_paths.proofs.MarkedWords.{walked_words}
use Rattle.sv_obl.proofs.OneDriver.{one_driver_at}
use Rattle.sv_obl.proofs.FormLists.{signal_known}
use Rattle.sv_paths.proofs.TrailTargets.{trails_excess_same, trails_listed, trail_words_are}
use Rattle.sv_paths.proofs.TrailTargets.{trail_names_are}
use Rattle.sv_obl.proofs.Unchanged.{marked_itself}
use Rattle.sv_obl.proofs.DrivenBodies.{has_marked}

-- ---- what was found

pub paths_walked : (design : FlatDesign) (s : ℕ) (process : Process) (paths : Paths)
    → ArePaths design s process paths → ArePathsWalked paths
paths_walked design s process (Routes routes) are = tt
paths_walked design s process (Trails body trails) are = are.walks

-- ---- the process that drives the target

module _ (flat : Flat) (is : IsDesign (design_of flat)) (s : ℕ)
    (known : s < length flat.signals.items) (bodies : List (Option Marked))
    (all : AllZip (IsMarkedBody (design_of flat).signals) (processes_of (design_of flat)) bodies)
    (k : ℕ) (driven : driver_of (design_of flat) s ≡ Some k) (p : ProcessForm)
    (there : get_or (processes_of (design_of flat)) k p ≡ p) where
  abbrev design : FlatDesign
  design = design_of flat

  is_known : IsTrue (is_signal design.signals s)
  is_known = signal_known flat s known

  -- where the process has no marked body, none of its reads is an earlier one
  pub unmarked : (x : Option Marked) → x ≡ get_or bodies k x → x ≡ None
      → marked design.signals (is_block p.kind) p.body no_bits ≡ p.body
  unmarked x at none = marked_itself design.signals (is_block p.kind) p.body no_bits no_bits
      (subst (IsMarkedBody design.signals p) none
      (has_marked flat is s known bodies all k driven p there x at))

  module _ (x : Option Marked) (at : x ≡ get_or bodies k x) (body : Marked)
      (is_body : x ≡ Some body) where
    has_body : IsMarkedBody design.signals p (Some body)
    has_body = subst (IsMarkedBody design.signals p) is_body
        (has_marked flat is s known bodies all k driven p there x at)

    is_process : Contains (processes_of design) p
    is_process = subst (Contains (processes_of design)) there
        (one_driver_at design is.is_sound is.is_admitted s is_known k p driven).0

    pub can_walk : CanWalk body
    can_walk = record {
      tells = (has_body.0).tells;
      words = walked_words design.signals (few_bits design is.is_sound) (is_block p.kind) p.body
          body has_body.0 (body_is_sound design is.is_sound is.is_admitted p is_process);
    }

    module _ (signals : List Signal) (are : signals ≡ flat.signals.items) where
      abbrev trails : List TrailForm
      trails = trails_before (signal_forms signals) s (marked_statement body) (open_trail s)

      same : trails
          ≡ trails_before design.signals s (marked_statement body) (open_trail s)
      same = ap (λ sigs. trails_before (signal_forms sigs) s (marked_statement body) (open_trail s))
          are

      pub driven_trails : (total : ℕ)
          → excess_by is_large_trail s total trails ≡ excess_at design total s
      driven_trails total = ap (excess_by is_large_trail s total) same
          ∙ trails_excess_same design is.is_sound is.is_admitted s is_known k p driven there body
          has_body.0 has_body.1 total

      pub are_trails : (process : Process) (found : List Trail) → process_form process ≡ p
          → trail_forms found ≡ trails → AreTrails design s process body found
      are_trails process found through made = record {
        listed =
            ap₂ (λ q ts. map (trail_obligation design.signals q s (marked_statement body)) ts)
            through (made ∙ same)
            ∙ trails_listed design is.is_sound is.is_admitted s is_known k p driven there body
            has_body.0 has_body.1;
        names = λ trail among.
            trail_names_are design is.is_sound is.is_admitted s is_known k p driven there body
            has_body.0 has_body.1 trail (subst (λ ts. Contains ts trail) (made ∙ same) among);
        marks = λ trail among.
            trail_words_are design is.is_sound is.is_admitted s is_known k p driven there body
            has_body.0 has_body.1 trail (subst (λ ts. Contains ts trail) (made ∙ same) among);
        walks = can_walk;
      }
