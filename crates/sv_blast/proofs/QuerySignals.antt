-- The signals of an obligation are signals of the design.
use Rattle.std.proofs.Common.{◌≡◌, ℕ, ◌<◌, List, length, get_or, sym, subst, All, arith}
use Rattle.std.specs.Prelude.{IsTrue}
use Rattle.std.proofs.lemmas.List.Elements.{Contains-get_or}
use Rattle.sv_flat.specs.declared.designs.Flat.{Flat}
use Rattle.sv_flat.specs.declared.signals.SigId.{SigId}
use Rattle.sv_flat.specs.Admission.{IsAdmitted}
use Rattle.sv_flat.specs.Sets.{holds as is_held}
use Rattle.sv_flat.specs.Soundness.{sound}
use Rattle.sv_flat.specs.Views.{design_of}
use Rattle.sv_flat.proofs.LeastSets.{holds-from_Contains}
use Rattle.sv_design.specs.Numbers.{numbers}
use Rattle.sv_obl.specs.declared.queries.Goal.{Goal}
use Rattle.sv_obl.specs.declared.queries.Query.{Query}
use Rattle.sv_obl.specs.DesignQueries.{IsGoalOf, IsQueryOf}
use Rattle.sv_obl.specs.Obligations.{GoalForm, flow, holds, selector, Obligation}
use Rattle.sv_obl.specs.Views.{goal_form, obligation_of, IsGoalAmong}
use Rattle.sv_encoding.specs.Cones.{now_cone, next_cone}
use Rattle.sv_encoding_laws.proofs.ConeFacts.{seen_below, Seen}
use Rattle.sv_encoding_laws.proofs.QueryCones.{now_seen, next_seen}
use Rattle.sv_blast.proofs.KnownSignals.{as_many}

module _ (flat : Flat) (is_sound : IsTrue (sound (design_of flat)))
    (admitted : IsAdmitted (design_of flat)) where
  seen_known : (s : ℕ) → Seen (design_of flat) is_sound admitted s →
      s < length flat.signals.items
  seen_known s seen =
      omega (arith, seen_below (design_of flat) is_sound admitted s seen, as_many flat)

  pub reads_known : (o : Obligation) → IsQueryOf (design_of flat) o →
      All (λ s. s < length flat.signals.items) o.reads
  reads_known o query k d inside = seen_known (get_or o.reads k d) (query.reads k d inside)

  pub goal_known : (o : Obligation) (goal : GoalForm) → IsGoalOf (design_of flat) o goal →
      IsGoalAmong (length flat.signals.items) goal
  goal_known o (flow target frame) is = seen_known target is.0
  goal_known o (holds e frame) is = tt
  goal_known o (selector s) is = seen_known s is.0

  -- the same of what stands in a query
  module _ (query : Query) (is : IsQueryOf (design_of flat) (obligation_of query)) where
    pub listed_known : (reads : List SigId) → reads ≡ query.reads.items →
        All (λ s. s < length flat.signals.items) (numbers reads)
    listed_known reads are =
        subst (λ (rs : List SigId). All (λ s. s < length flat.signals.items) (numbers rs)) (sym are)
        (reads_known (obligation_of query) is)

    pub asked_known : (goal : Goal) → query.goal ≡ goal →
        IsGoalAmong (length flat.signals.items) (goal_form goal)
    asked_known goal e =
        subst (λ (g : Goal). IsGoalAmong (length flat.signals.items) (goal_form g)) e
        (goal_known (obligation_of query) (obligation_of query).goal is.goal)

  cone_known : (cone : List ℕ) →
      ((s : ℕ) → IsTrue (is_held cone s) → Seen (design_of flat) is_sound admitted s) →
      All (λ s. s < length flat.signals.items) cone
  cone_known cone seen k d inside =
      seen_known (get_or cone k d) (seen (get_or cone k d)
      (holds-from_Contains cone (get_or cone k d) (Contains-get_or cone k d inside)))

  module _ (o : Obligation) (query : IsQueryOf (design_of flat) o) where
    pub now_known : All (λ s. s < length flat.signals.items) (now_cone (design_of flat) o)
    now_known = cone_known (now_cone (design_of flat) o)
        (now_seen (design_of flat) is_sound admitted o query)

    pub next_known : All (λ s. s < length flat.signals.items) (next_cone (design_of flat) o)
    next_known = cone_known (next_cone (design_of flat) o)
        (next_seen (design_of flat) is_sound admitted o query)
