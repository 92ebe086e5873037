-- The words and labels that facts, conditions and the goal ask for are there.
use Rattle.std.proofs.Common.{ℕ, ◌≤◌, List, [], ◌∷◌, length, arith}
use Rattle.std.specs.Prelude.{Contains, IsTrue}
use Rattle.std.specs.List.{list_any}
use Rattle.sv_system.proofs.Lists.{Contains-head}
use Rattle.sv_flat.specs.declared.designs.Flat.{Flat}
use Rattle.sv_flat.specs.Design.{FlatDesign, TypedTree}
use Rattle.sv_flat.specs.Soundness.{well_formed}
use Rattle.sv_flat.specs.Readings.{names_signal}
use Rattle.sv_flat.specs.Views.{design_of}
use Rattle.sv_flat.proofs.LeastSets.{in_those, some_from}
use Rattle.sv_obl.specs.declared.frames.Frame.TheVariants.{Now, Next}
use Rattle.sv_obl.specs.Obligations.{Obligation, GoalForm, flow, holds as must_hold, selector}
use Rattle.sv_obl.specs.DesignQueries.{IsExpressionOf, IsGoalOf, IsQueryOf}
use Rattle.sv_obl.specs.Noninterference.{IsChecked}
use Rattle.sv_encoding.specs.Cones.{label_selectors, named_in, asked_now, asked_next, conditions_of}
use Rattle.sv_encoding.specs.Expressions.{Words}
use Rattle.sv_encoding_laws.proofs.Chain.{s2, s5, s7, s8, s9, p8, InCone}
use Rattle.sv_encoding_laws.proofs.Chain.{InLater, named_inside, now_word, next_word}
use Rattle.sv_encoding_laws.proofs.Chain.{asked_inside, labels_inside, grows5, grows7, grows9}
use Rattle.sv_encoding_laws.proofs.ConeFacts.{seen_below}
use Rattle.sv_obl.proofs.PathLists.{in_flat_map}
use Rattle.sv_encoding_laws.proofs.QueryCones.{next_starts, condition_is}
use Rattle.sv_blast.specs.Goals.{IsTargetReady, IsHeldReady}
use Rattle.sv_blast.specs.WordTables.{StandsOf, StandFor}

module _ (flat : Flat) (checked : IsChecked (design_of flat)) (o : Obligation)
    (query : IsQueryOf (design_of flat) o) where
  abbrev design : FlatDesign
  design = design_of flat

  abbrev now_words : Words
  now_words = (s2 design checked o query).1

  abbrev next_words : Words
  next_words = (s5 design checked o query).1

  -- ---- expressions

  -- a signal that one of these names is named in them
  listed : (es : List TypedTree) (e : TypedTree) → Contains es e → IsExpressionOf design e →
      (s : ℕ) → IsTrue (names_signal design.signals e s) → Contains (named_in design es) s
  listed es e at is s named =
      in_those (length design.signals)
      (λ s. list_any (λ e. names_signal design.signals e s) es) s
      (seen_below design checked.is_sound checked.admitted s (is.names s named))
      (some_from (λ (x : TypedTree). names_signal design.signals x s) es e at named)

  named_stands : (n : ℕ) → (s2 design checked o query).0.variables ≤ n → (e : TypedTree) →
      Contains (conditions_of o) e → IsExpressionOf design e → StandFor design.signals n now_words e
  named_stands n h e at is s named =
      now_word design checked o query n h s
      (named_inside design checked o query s (listed (conditions_of o) e at is s named))

  pub asked_formed : (e : TypedTree) → Contains (conditions_of o) e →
      IsTrue (well_formed design.signals e)
  asked_formed e at = (condition_is design checked.is_sound checked.admitted o query e at).formed

  pub asked_stands : (n : ℕ) → (s5 design checked o query).0.variables ≤ n → (e : TypedTree) →
      Contains (conditions_of o) e → StandFor design.signals n now_words e
  asked_stands n h e at =
      named_stands n (omega (arith, grows5 design checked o query, h)) e at
      (condition_is design checked.is_sound checked.admitted o query e at)

  -- ---- labels

  target_of : (goal : GoalForm) → IsGoalOf design o goal →
      ((t : ℕ) → Contains (asked_now design goal) t → InCone design checked o query t) →
      ((t : ℕ) → Contains (asked_next design goal) t → InLater design checked o query t) →
      IsTargetReady design (s7 design checked o query).0.variables now_words next_words goal
  target_of (flow s Now) is now next = (
    seen_below design checked.is_sound checked.admitted s is.0,
    λ t at. now_word design checked o query (s7 design checked o query).0.variables
        (omega (arith, grows5 design checked o query, grows7 design checked o query)) t (now t at),
  )
  target_of (flow s Next) is now next = (
    seen_below design checked.is_sound checked.admitted s is.0,
    λ t at. next_word design checked o query (s7 design checked o query).0.variables
        (grows7 design checked o query) t (next t at),
  )
  target_of (must_hold e frame) is now next = tt
  target_of (selector s) is now next = (
    seen_below design checked.is_sound checked.admitted s is.0,
    λ t at. now_word design checked o query (s7 design checked o query).0.variables
        (omega (arith, grows5 design checked o query, grows7 design checked o query)) t (now t at),
  )

  pub target_ready : IsTargetReady design (s7 design checked o query).0.variables now_words
      next_words o.goal
  target_ready =
      target_of o.goal query.goal (asked_inside design checked o query)
      (λ t at. next_starts design checked.is_sound checked.admitted o query t at)

  pub reads_stand : (s t : ℕ) → Contains o.reads s → Contains (label_selectors design s) t →
      StandsOf design.signals (s8 design checked o query).0.variables now_words t
  reads_stand s t at selects =
      let more = (p8 design checked o query).extends.begins.grows in
      now_word design checked o query (s8 design checked o query).0.variables
      (omega (arith, grows5 design checked o query, grows7 design checked o query, more)) t
      (labels_inside design checked o query t
      (in_flat_map (label_selectors design) o.reads s t at selects))

  -- ---- an expression that is to hold

  held_of : (goal : GoalForm) → IsGoalOf design o goal →
      ((t : ℕ) → Contains (asked_now design goal) t → InCone design checked o query t) →
      ((t : ℕ) → Contains (asked_next design goal) t → InLater design checked o query t) →
      IsHeldReady design (s9 design checked o query).0.variables now_words next_words goal
  held_of (flow s frame) is now next = tt
  held_of (must_hold e Now) is now next = (
    is.formed,
    λ s named. now_word design checked o query (s9 design checked o query).0.variables
        (omega (
          arith,
          grows5 design checked o query,
          grows7 design checked o query,
          grows9 design checked o query,
        )) s (now s (listed (e ∷ []) e (Contains-head e []) is s named)),
  )
  held_of (must_hold e Next) is now next = (
    is.formed,
    λ s named. next_word design checked o query (s9 design checked o query).0.variables
        (omega (arith, grows7 design checked o query, grows9 design checked o query)) s
        (next s (listed (e ∷ []) e (Contains-head e []) is s named)),
  )
  held_of (selector s) is now next = tt

  pub held_ready : IsHeldReady design (s9 design checked o query).0.variables now_words next_words
      o.goal
  held_ready =
      held_of o.goal query.goal (asked_inside design checked o query)
      (λ t at. next_starts design checked.is_sound checked.admitted o query t at)
