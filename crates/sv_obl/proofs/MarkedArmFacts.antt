-- Chains of branches that are marked, arm by arm.
use Rattle.std.proofs.Common.{◌≡◌, ℕ, true, ◌||◌, List, [], ◌∷◌, ◌++◌, refl, sym, ap, ap₂, subst}
use Rattle.std.proofs.Common.{◌∙◌}
use Rattle.std.proofs.lemmas.Bool.{and_parts}
use Rattle.std.specs.Prelude.{IsTrue}
use Rattle.sv_flat.specs.Assigned.{can_assign}
use Rattle.sv_flat.specs.Design.{SignalForm, TypedTree, FlatStatement, nothing, branch}
use Rattle.sv_flat.specs.Readings.{BitSet, either}
use Rattle.sv_flat.specs.Soundness.{well_formed, statement_sound}
use Rattle.sv_flat.specs.Views.{typed_tree}
use Rattle.sv_graph.specs.declared.bit_sets.BitSet.{BitSet as Bits}
use Rattle.sv_graph.specs.BitSets.{in_bits}
use Rattle.sv_rules.proofs.Passes.{or_turned}
use Rattle.sv_obl.specs.declared.marked.Marked.{Marked}
use Rattle.sv_obl.specs.declared.marked.MarkedArm.{MarkedArm}
use Rattle.sv_obl.specs.BodySlices.{in_sequence}
use Rattle.sv_obl.specs.Marked.{IsBranch, IsMarking}
use Rattle.sv_obl.specs.MarkedBodies.{marked_statement}
use Rattle.sv_obl.specs.MarkedArms.{IsArm, AreArms, AreConditions}
use Rattle.sv_obl.specs.Wanted.{marked as marked_as, marked_tree}
use Rattle.sv_obl.proofs.MarkedFacts.{parts_branch}

-- the arms so far, and what is left, which is the second arm of the last one
pub record OpenArms (signals : List SignalForm) (later : BitSet) (whole rest : FlatStatement)
    (arms : List MarkedArm) : Type 0 where
  pub are : AreArms signals later arms rest whole
  pub conditions : AreConditions signals arms
  pub is_sound : IsTrue (statement_sound signals rest)

-- from the arms that are left and what is known of the second arm of the last one to the whole
pub record BackAt (signals : List SignalForm) (later : BitSet) (arms : List MarkedArm)
    (whole : FlatStatement) (x : Marked) (set : Bits) : Type 0 where
  pub rest : FlatStatement
  pub are : AreArms signals later arms rest whole
  pub is_known : IsMarking signals later rest x set

module _ (signals : List SignalForm) (later : BitSet) where
  arms_with : (arms : List MarkedArm) (arm : MarkedArm) (whole rest second : FlatStatement)
      → IsArm signals later arm rest second → AreArms signals later arms rest whole
      → AreArms signals later (arms ++ arm ∷ []) second whole
  arms_with [] arm whole rest second is h =
      (second, subst (λ z. IsArm signals later arm z second) (sym h) is, refl)
  arms_with (a ∷ arms) arm whole rest second is h =
      (h.0, h.1, arms_with arms arm h.0 rest second is h.2)

  arms_before : (arms : List MarkedArm) (arm : MarkedArm) (whole rest : FlatStatement)
      → AreArms signals later (arms ++ arm ∷ []) rest whole
      → (middle : FlatStatement) × AreArms signals later arms middle whole
      × IsArm signals later arm middle rest
  arms_before [] arm whole rest h = (whole, refl, subst (IsArm signals later arm whole) h.2 h.1)
  arms_before (a ∷ arms) arm whole rest h =
      let inner = arms_before arms arm h.0 rest h.2 in
      (inner.0, (h.0, h.1, inner.1), inner.2)

  conditions_with : (arms : List MarkedArm) (arm : MarkedArm)
      → IsTrue (well_formed signals (typed_tree arm.cond.now)) → AreConditions signals arms
      → AreConditions signals (arms ++ arm ∷ [])
  conditions_with [] arm formed h = (formed, tt)
  conditions_with (a ∷ arms) arm formed h = (h.0, conditions_with arms arm formed h.1)

  pub conditions_before : (arms : List MarkedArm) (arm : MarkedArm)
      → AreConditions signals (arms ++ arm ∷ [])
      → AreConditions signals arms × IsTrue (well_formed signals (typed_tree arm.cond.now))
  conditions_before [] arm h = (tt, h.0)
  conditions_before (a ∷ arms) arm h =
      let inner = conditions_before arms arm h.1 in
      ((h.0, inner.0), inner.1)

  pub open_begin : (arms : List MarkedArm) (whole : FlatStatement) → arms ≡ []
      → IsTrue (statement_sound signals whole) → OpenArms signals later whole whole arms
  open_begin arms whole none is_sound =
      subst (OpenArms signals later whole whole) (sym none)
      (record { are = refl; conditions = tt; is_sound = is_sound })

  pub open_more : (arms more : List MarkedArm) (arm : MarkedArm)
      (whole rest first second : FlatStatement) → more ≡ arms ++ arm ∷ []
      → rest ≡ branch arm.place (typed_tree arm.cond.now) first second
      → IsMarking signals later first arm.yes arm.bits
      → OpenArms signals later whole rest arms
      → OpenArms signals later whole second more
  open_more arms more arm whole rest first second made is known so_far =
      let parts = and_parts _ _ (subst (λ z. IsTrue (statement_sound signals z)) is so_far.is_sound) in
      record {
        are = subst (λ z. AreArms signals later z second whole) (sym made)
            (arms_with arms arm whole rest second
            (record { first = first; is_branch = is; is_known = known }) so_far.are);
        conditions = subst (AreConditions signals) (sym made)
            (conditions_with arms arm (and_parts _ _ parts.0).0 so_far.conditions);
        is_sound = parts.1;
      }

  arm_taken : (arm : MarkedArm) (whole second : FlatStatement) (inside : BitSet) (rest x : Marked)
      (bits all : Bits) (cond : TypedTree) → IsArm signals later arm whole second
      → IsMarking signals later second rest bits
      → ((s b : ℕ) → in_bits all s b ≡ (in_bits bits s b || in_bits arm.bits s b))
      → ((whole : BitSet) → ((s b : ℕ) → in_bits all s b ≡ whole s b)
      → inside ≡ either whole later)
      → cond ≡ marked_tree signals true inside (typed_tree arm.cond.now)
      → IsBranch arm.place cond arm.yes rest x
      → IsMarking signals later whole x all
  arm_taken arm whole second inside rest x bits all cond is known gains around made made_branch =
      let statement = branch arm.place (typed_tree arm.cond.now) is.first second in
      let has_bits : (s b : ℕ) → in_bits all s b ≡ can_assign statement s b =
      λ s b. gains s b ∙ ap₂ (λ m n. m || n) (known.has_bits s b) (is.is_known.has_bits s b)
      ∙ or_turned (can_assign second s b) (can_assign is.first s b) in
      let tree = marked_tree signals true (either (can_assign statement) later)
      (typed_tree arm.cond.now) in
      let cond_is : cond ≡ tree = made ∙ ap (λ b. marked_tree signals true b
      (typed_tree arm.cond.now)) (around (can_assign statement) has_bits) in
      subst (λ z. IsMarking signals later z x all) (sym is.is_branch)
      (record {
        is_marked = record {
          parts = ap (λ (z : FlatStatement). in_sequence z nothing)
              (made_branch.statement_is ∙ ap (λ e. branch arm.place e
              (marked_statement arm.yes) (marked_statement rest)) cond_is)
              ∙ parts_branch arm.place tree (marked_statement arm.yes)
              (marked_as signals true is.first later) (marked_statement rest)
              (marked_as signals true second later) is.is_known.is_marked.parts
              known.is_marked.parts;
          tells = made_branch.tells is.is_known.is_marked.tells known.is_marked.tells;
        };
        has_bits = has_bits;
      })

  pub back_more : (arms left : List MarkedArm) (arm : MarkedArm) (whole : FlatStatement)
      (inside : BitSet) (rest x : Marked) (bits all : Bits) (cond : TypedTree)
      → arms ≡ left ++ arm ∷ []
      → ((s b : ℕ) → in_bits all s b ≡ (in_bits bits s b || in_bits arm.bits s b))
      → ((whole : BitSet) → ((s b : ℕ) → in_bits all s b ≡ whole s b)
      → inside ≡ either whole later)
      → cond ≡ marked_tree signals true inside (typed_tree arm.cond.now)
      → IsBranch arm.place cond arm.yes rest x
      → BackAt signals later arms whole rest bits → BackAt signals later left whole x all
  back_more arms left arm whole inside rest x bits all cond split gains around made made_branch
      back =
      let before = arms_before left arm whole back.rest
      (subst (λ z. AreArms signals later z back.rest whole) split back.are) in
      record {
        rest = before.0;
        are = before.1;
        is_known = arm_taken arm before.0 back.rest inside rest x bits all cond before.2
            back.is_known gains around made made_branch;
      }

  pub back_begin : (arms : List MarkedArm) (rest whole : FlatStatement) (x : Marked) (set : Bits)
      → AreArms signals later arms rest whole → IsMarking signals later rest x set
      → BackAt signals later arms whole x set
  back_begin arms rest whole x set are known =
      record { rest = rest; are = are; is_known = known }

  pub back_end : (arms : List MarkedArm) (whole : FlatStatement) (x : Marked) (set : Bits)
      → arms ≡ [] → BackAt signals later arms whole x set → IsMarking signals later whole x set
  back_end arms whole x set none back =
      subst (λ z. IsMarking signals later z x set)
      (sym (subst (λ z. AreArms signals later z back.rest whole) none back.are)) back.is_known
