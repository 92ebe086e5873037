-- Chains of branches, arm by arm.
use Rattle.std.proofs.Common.{◌≡◌, ℕ, Bool, true, false, ◌&&◌, [], ◌++◌, List, Option, Some, None}
use Rattle.std.proofs.Common.{refl, sym, ap, subst, ◌∙◌, append_assoc}
use Rattle.std.proofs.lemmas.Bool.{and_parts}
use Rattle.std.specs.Prelude.{IsTrue}
use Rattle.sv_num.specs.declared.faults.Place.{Place}
use Rattle.sv_flat.specs.Assigned.{assigns, can_assign, always_assigns}
use Rattle.sv_flat.specs.Design.{SignalForm, TypedTree, FlatStatement, branch}
use Rattle.sv_flat.specs.Readings.{BitSet, either, Reading, readings, readings_of}
use Rattle.sv_flat.specs.Soundness.{statement_sound}
use Rattle.sv_graph.specs.declared.bit_sets.BitSet.{BitSet as Bits}
use Rattle.sv_rules.specs.declared.found.Found.{Found}
use Rattle.sv_rules.specs.Arms.{both_of, common_bits}
use Rattle.sv_graph.specs.BitSets.{in_bits}
use Rattle.sv_rules.specs.First.{FindsFirst, first_found}
use Rattle.sv_rules.specs.Phases.{SameBits, HasTargets, FindsReads, wrong_reads}
use Rattle.sv_rules.proofs.PhaseFacts.{both_reads}

-- the reads of the arms so far were looked at, and what is left is the second arm of the last one
pub record ForwardArms (signals : List SignalForm) (assigned : Bits) (around : BitSet)
    (whole rest : FlatStatement) (common : Option Bits) (found : Option Found) : Type 0 where
  pub done : BitSet → BitSet → List Reading
  pub finds : (body : FlatStatement) (a f : BitSet)
      → HasTargets body assigned → SameBits a around
      → FindsFirst 606 (wrong_reads signals body (done a f)) found
  pub reads_are : (a f : BitSet) → readings signals whole a f ≡ done a f ++ readings signals rest a f
  pub bits_are : SameBits (both_of (common_bits common) (always_assigns rest)) (always_assigns whole)
  pub is_sound : IsTrue (statement_sound signals rest)

and_three : (a b c : Bool) → ((a && b) && c) ≡ (a && (b && c))
and_three true b c = refl
and_three false b c = refl

module _ (signals : List SignalForm) (assigned : Bits) (around : BitSet) where
  pub arms_begin : (whole : FlatStatement) → IsTrue (statement_sound signals whole) →
      ForwardArms signals assigned around whole whole None None
  arms_begin whole is_sound = record {
    done = λ a f. [];
    finds = λ body a f asks bits. refl;
    reads_are = λ a f. refl;
    bits_are = λ s b. refl;
    is_sound = is_sound;
  }

  pub arms_more : (whole rest first second : FlatStatement) (place : Place) (cond : TypedTree)
      (common : Option Bits) (arm more : Bits) (found in_cond in_first in_arm next : Option Found)
      → rest ≡ branch place cond first second
      → ((serves : ℕ → Bool) → FindsReads signals assigned around
      (readings_of signals cond serves) in_cond)
      → FindsReads signals assigned around (readings signals first) in_first
      → SameBits (in_bits arm) (always_assigns first)
      → SameBits (in_bits more) (both_of (common_bits common) (in_bits arm))
      → in_arm ≡ first_found in_cond in_first → next ≡ first_found found in_arm
      → ForwardArms signals assigned around whole rest common found
      → ForwardArms signals assigned around whole second (Some more) next
  arms_more whole rest first second place cond common arm more found in_cond in_first in_arm next is
      finds_cond finds_first arm_bits more_bits arm_is next_is so_far =
      let all = branch place cond first second in
      let of_arm : BitSet → BitSet → List Reading =
      λ a f. readings_of signals cond (assigns all) a (either (can_assign all) f)
      ++ readings signals first a f in
      let same : (a f : BitSet) → SameBits a around → SameBits a around = λ a f h. h in
      let finds_arm : FindsReads signals assigned around of_arm in_arm =
      subst (FindsReads signals assigned around of_arm) (sym arm_is)
      (both_reads signals assigned around around around
      (readings_of signals cond (assigns all)) (readings signals first) in_cond in_first
      (λ a f. a) (λ a f. either (can_assign all) f) (λ a f. a) (λ a f. f) same same
      (finds_cond (assigns all)) finds_first) in
      record {
        done = λ a f. so_far.done a f ++ of_arm a f;
        finds = subst (FindsReads signals assigned around (λ a f. so_far.done a f ++ of_arm a f))
            (sym next_is)
            (both_reads signals assigned around around around so_far.done of_arm found in_arm
            (λ a f. a) (λ a f. f) (λ a f. a) (λ a f. f) same same so_far.finds finds_arm);
        reads_are = λ a f.
            so_far.reads_are a f
            ∙ ap (λ z. so_far.done a f ++ readings signals z a f) is
            ∙ sym (append_assoc (so_far.done a f) (of_arm a f) (readings signals second a f));
        bits_are = λ s b.
            ap (λ t. t && always_assigns second s b)
            (more_bits s b ∙ ap (λ t. common_bits common s b && t) (arm_bits s b))
            ∙ and_three (common_bits common s b) (always_assigns first s b)
            (always_assigns second s b)
            ∙ ap (λ z. common_bits common s b && always_assigns z s b) (sym is)
            ∙ so_far.bits_are s b;
        is_sound = (and_parts _ _ (subst (λ z. IsTrue (statement_sound signals z)) is
            so_far.is_sound)).1;
      }

  pub arms_end : (whole rest : FlatStatement) (common : Option Bits) (arm both : Bits)
      (found in_rest next : Option Found)
      → FindsReads signals assigned around (readings signals rest) in_rest
      → SameBits (in_bits arm) (always_assigns rest)
      → SameBits (in_bits both) (both_of (common_bits common) (in_bits arm))
      → next ≡ first_found found in_rest
      → ForwardArms signals assigned around whole rest common found
      → FindsReads signals assigned around (readings signals whole) next
      × SameBits (in_bits both) (always_assigns whole)
  arms_end whole rest common arm both found in_rest next finds arm_bits both_bits next_is so_far = (
    λ body a f asks bits.
        subst (λ rs. FindsFirst 606 (wrong_reads signals body rs) next)
        (sym (so_far.reads_are a f))
        (subst (FindsReads signals assigned around (λ a f.
        so_far.done a f ++ readings signals rest a f)) (sym next_is)
        (both_reads signals assigned around around around so_far.done
        (readings signals rest) found in_rest (λ a f. a) (λ a f. f) (λ a f. a) (λ a f. f)
        (λ a f h. h) (λ a f h. h) so_far.finds finds) body a f asks bits),
    λ s b.
        both_bits s b
        ∙ ap (λ t. common_bits common s b && t) (arm_bits s b)
        ∙ so_far.bits_are s b,
  )
