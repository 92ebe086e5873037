-- Statements in which earlier reads are wanted: their parts, and what they tell.
use Rattle.std.proofs.Common.{◌≡◌, ℕ, Bool, true, false, ◌||◌, ◌==◌, List, [], ◌∷◌, ◌++◌, map}
use Rattle.std.proofs.Common.{fold, nat_cmp, refl, sym, ap, ap₂, subst, ◌∙◌, append-nil}
use Rattle.std.proofs.Common.{Option, Some, None, option_to_list}
use Rattle.std.specs.BTreeSet.{BTreeSet, insert_key, contains}
use Rattle.std.specs.List.{list_any}
use Rattle.std.proofs.lemmas.List.Folds.{list_any-append}
use Rattle.std.proofs.lemmas.Map.Lookups.{exact_unsigned}
use Rattle.std.proofs.lemmas.Map.Views.{btree_set_contains_iff}
use Rattle.std.proofs.lemmas.Cmp.{nat_cmp_total}
use Rattle.sv_num.specs.declared.faults.Place.{Place}
use Rattle.sv_flat.specs.Design.{SignalForm, TypedTree, PieceForm, FlatStatement, nothing, after}
use Rattle.sv_flat.specs.Design.{assign, branch}
use Rattle.sv_flat.specs.Assigned.{assigns, can_assign}
use Rattle.sv_flat.specs.Readings.{BitSet, either}
use Rattle.sv_flat.specs.Sets.{holds}
use Rattle.sv_flat.proofs.LeastSets.{holds-from_Contains, Contains-from_holds}
use Rattle.sv_graph.proofs.BitFacts.{same_answer}
use Rattle.sv_graph.specs.declared.bit_sets.BitSet.{BitSet as Bits}
use Rattle.sv_graph.specs.BitSets.{in_bits}
use Rattle.sv_rules.specs.Phases.{SameBits}
use Rattle.sv_rules.proofs.Passes.{or_turned}
use Rattle.sv_obl.specs.declared.marked.Marked.{Marked}
use Rattle.sv_obl.specs.declared.marked.Marked as marked
use Rattle.sv_obl.specs.BodySlices.{in_sequence, SameParts}
use Rattle.sv_obl.specs.Marked.{targets_in, IsChain, IsBranch, IsMarking, stacked, AllTell, EndsIn}
use Rattle.sv_obl.specs.MarkedBodies.{marked_statement, AreTargets, TellsTargets}
use Rattle.sv_obl.specs.Views.{piece_forms}
use Rattle.sv_obl.specs.Wanted.{marked as marked_as, marked_tree}
use Rattle.sv_obl.proofs.HeldNumbers.{put_held}
use Rattle.sv_obl.proofs.SliceFacts.{or_none, same_before}

-- ---- the parts of statements

pub parts_after : (a b c d : FlatStatement) → SameParts a b → SameParts c d
    → SameParts (after a c) (after b d)
parts_after a b c d x y =
    ap (in_sequence a) y ∙ same_before a b x (in_sequence d nothing)

pub parts_branch : (place : Place) (condition : TypedTree) (a b c d : FlatStatement)
    → SameParts a b → SameParts c d
    → SameParts (branch place condition a c) (branch place condition b d)
parts_branch place condition a b c d x y =
    ap₂ (λ (u v : FlatStatement). after (branch place condition u v) nothing) x y

-- ---- what statements tell

held_signals : (pieces : List PieceForm) (s : ℕ)
    → holds (map (λ (piece : PieceForm). piece.signal) pieces) s
    ≡ list_any (λ (piece : PieceForm). piece.signal == s) pieces
held_signals [] s = refl
held_signals (piece ∷ pieces) s = ap (λ b. (piece.signal == s) || b) (held_signals pieces s)

pub set_holds : (targets : BTreeSet ℕ) (s : ℕ) → contains nat_cmp targets s ≡ holds targets.keys s
set_holds targets s = same_answer (contains nat_cmp targets s) (holds targets.keys s)
    (λ h. holds-from_Contains targets.keys s
    ((btree_set_contains_iff nat_cmp_total exact_unsigned targets s).0 h))
    (λ h. (btree_set_contains_iff nat_cmp_total exact_unsigned targets s).1
    (Contains-from_holds targets.keys s h))

-- a statement tells just what it assigns
told : (x : Marked) → TellsTargets x → (s : ℕ) → holds (targets_in x) s ≡ assigns (marked_statement x) s
told marked.Nothing tells s = refl
told (marked.Assign pieces place blocking right) tells s = held_signals (piece_forms pieces.now) s
told (marked.Chain' targets p first q second) tells s = sym (set_holds targets s) ∙ tells.0 s
told (marked.Branch' targets place c p first q second) tells s =
    sym (set_holds targets s) ∙ tells.0 s

both_told : (first second : Marked) (targets : BTreeSet ℕ)
    → targets.keys ≡ fold (insert_key nat_cmp) [] (targets_in first ++ targets_in second)
    → TellsTargets first → TellsTargets second → (s : ℕ)
    → contains nat_cmp targets s
    ≡ (assigns (marked_statement first) s || assigns (marked_statement second) s)
both_told first second targets is one two s =
    set_holds targets s
    ∙ ap (λ ks. holds ks s) is
    ∙ put_held (targets_in first ++ targets_in second) [] s
    ∙ or_none (holds (targets_in first ++ targets_in second) s)
    ∙ list_any-append (λ t. t == s) (targets_in first) (targets_in second)
    ∙ ap₂ (λ m n. m || n) (told first one s) (told second two s)

-- two that were put into boxes, as they were before
module _ (first second a b : Marked) (targets : BTreeSet ℕ)
    (is : targets.keys ≡ fold (insert_key nat_cmp) [] (targets_in first ++ targets_in second))
    (one : a ≡ first) (two : b ≡ second) (x : Marked) where
  keys_are : targets.keys ≡ fold (insert_key nat_cmp) [] (targets_in a ++ targets_in b)
  keys_are = is ∙ ap₂ (λ y z. fold (insert_key nat_cmp) [] (targets_in y ++ targets_in z))
      (sym one) (sym two)

  pub chain_told : marked_statement x ≡ after (marked_statement a) (marked_statement b)
      → (AreTargets targets (after (marked_statement a) (marked_statement b))
      → TellsTargets a → TellsTargets b → TellsTargets x)
      → IsChain first second x
  chain_told goes tells = record {
    statement_is =
        goes ∙ ap₂ (λ y z. after (marked_statement y) (marked_statement z)) one two;
    tells = λ p q.
        let m = subst TellsTargets (sym one) p in
        let n = subst TellsTargets (sym two) q in
        tells (both_told a b targets keys_are m n) m n;
  }

  pub branch_told : (place : Place) (condition : TypedTree)
      → marked_statement x ≡ branch place condition (marked_statement a) (marked_statement b)
      → (AreTargets targets (branch place condition (marked_statement a) (marked_statement b))
      → TellsTargets a → TellsTargets b → TellsTargets x)
      → IsBranch place condition first second x
  branch_told place condition goes tells = record {
    statement_is = goes
        ∙ ap₂ (λ y z. branch place condition (marked_statement y) (marked_statement z)) one two;
    tells = λ p q.
        let m = subst TellsTargets (sym one) p in
        let n = subst TellsTargets (sym two) q in
        tells (both_told a b targets keys_are m n) m n;
  }

-- ---- one after the other

one_after : (xs : List Marked) (x : Marked) → EndsIn (xs ++ x ∷ []) xs x
one_after [] x = record { parts = refl; tells = λ h. (tt, h.0) }
one_after (y ∷ xs) x =
    let rest = one_after xs x in
    record {
      parts = parts_after (stacked (xs ++ x ∷ [])) (after (marked_statement x) (stacked xs))
          (marked_statement y) (marked_statement y) rest.parts refl;
      tells = λ h. let inner = rest.tells h.1 in ((h.0, inner.0), inner.1);
    }

pub popped : (old new : List Marked) (result : Option Marked) (last : Marked)
    → old ≡ new ++ option_to_list result → result ≡ Some last → EndsIn old new last
popped old new result last items is =
    subst (λ all. EndsIn all new last) (sym (items ∙ ap (λ r. new ++ option_to_list r) is))
    (one_after new last)

pub none_popped : (old new : List Marked) (result : Option Marked)
    → old ≡ new ++ option_to_list result → result ≡ None → EndsIn old new marked.Nothing
none_popped old new result items is =
    subst (λ all. EndsIn all new marked.Nothing)
    (sym (items ∙ ap (λ r. new ++ option_to_list r) is ∙ append-nil new))
    (record { parts = refl; tells = λ h. (h, tt) })

-- the last of some and those before them, taken as one
pub two_ends : (all middle front : List Marked) (first second whole : Marked)
    → EndsIn all middle first → EndsIn middle front second → IsChain first second whole
    → EndsIn all front whole
two_ends all middle front first second whole one two chain = record {
  parts = one.parts
      ∙ parts_after (marked_statement first) (marked_statement first) (stacked middle)
      (after (marked_statement second) (stacked front)) refl two.parts
      ∙ ap (λ (z : FlatStatement). in_sequence (after z (stacked front)) nothing)
      (sym chain.statement_is);
  tells = λ h.
      let m = one.tells h in
      let f = two.tells m.0 in
      (f.0, chain.tells m.1 f.1);
}

-- ---- blocks

-- some statements of a block are marked, from the last back
pub record BlockAt (signals : List SignalForm) (later : BitSet) (parts : List Marked)
    (statement : FlatStatement) (set : Bits) : Type 0 where
  pub same : SameParts (stacked parts) (marked_as signals true statement later)
  pub tells : AllTell parts
  pub has_bits : SameBits (in_bits set) (can_assign statement)

tells_more : (xs : List Marked) (x : Marked) → AllTell xs → TellsTargets x → AllTell (xs ++ x ∷ [])
tells_more [] x all one = (one, tt)
tells_more (y ∷ xs) x all one = (all.0, tells_more xs x all.1 one)

module _ (signals : List SignalForm) (later : BitSet) where
  pub block_begin : (parts : List Marked) (statement : FlatStatement) (none : Bits)
      → parts ≡ [] → statement ≡ nothing → ((s b : ℕ) → in_bits none s b ≡ false)
      → BlockAt signals later parts statement none
  block_begin parts statement none empty is no_bits = record {
    same = ap (λ xs. in_sequence (stacked xs) nothing) empty
        ∙ sym (ap (λ (z : FlatStatement). in_sequence (marked_as signals true z later) nothing) is);
    tells = subst AllTell (sym empty) tt;
    has_bits = λ s b. no_bits s b ∙ sym (ap (λ z. can_assign z s b) is);
  }

  -- one statement more before them
  pub block_more : (parts more : List Marked) (x : Marked) (inside : BitSet)
      (whole first rest : FlatStatement) (here bits all : Bits)
      → more ≡ parts ++ x ∷ [] → whole ≡ after first rest
      → inside ≡ either (can_assign rest) later
      → IsMarking signals inside first x bits
      → ((s b : ℕ) → in_bits all s b ≡ (in_bits here s b || in_bits bits s b))
      → BlockAt signals later parts rest here → BlockAt signals later more whole all
  block_more parts more x inside whole first rest here bits all made is around one gains so = record {
    same = ap (λ xs. in_sequence (stacked xs) nothing) made
        ∙ (one_after parts x).parts
        ∙ parts_after (marked_statement x)
        (marked_as signals true first (either (can_assign rest) later)) (stacked parts)
        (marked_as signals true rest later)
        (subst (λ z. SameParts (marked_statement x) (marked_as signals true first z)) around
        one.is_marked.parts)
        so.same
        ∙ sym (ap (λ (z : FlatStatement). in_sequence (marked_as signals true z later) nothing) is);
    tells = subst AllTell (sym made) (tells_more parts x so.tells one.is_marked.tells);
    has_bits = λ s b.
        gains s b ∙ ap₂ (λ m n. m || n) (so.has_bits s b) (one.has_bits s b)
        ∙ or_turned (can_assign rest s b) (can_assign first s b)
        ∙ sym (ap (λ z. can_assign z s b) is);
  }

  -- all of them taken as one
  pub block_end : (parts left : List Marked) (whole : Marked) (statement : FlatStatement)
      (set : Bits) → left ≡ [] → EndsIn parts left whole
      → BlockAt signals later parts statement set → IsMarking signals later statement whole set
  block_end parts left whole statement set none ends so = record {
    is_marked = record {
      parts = sym (ends.parts
          ∙ ap (λ xs. in_sequence (after (marked_statement whole) (stacked xs)) nothing) none)
          ∙ so.same;
      tells = (ends.tells so.tells).1;
    };
    has_bits = so.has_bits;
  }

  -- ---- assignments

  pub assign_marked : (pieces : List PieceForm) (place : Place) (blocking : Bool)
      (right made : TypedTree) (statement : FlatStatement) (inside : BitSet) (x : Marked)
      (set : Bits) → statement ≡ assign pieces place blocking right
      → marked_statement x ≡ assign pieces place blocking made → TellsTargets x
      → made ≡ marked_tree signals true inside right
      → inside ≡ either (can_assign (assign pieces place blocking right)) later
      → SameBits (in_bits set) (can_assign (assign pieces place blocking right))
      → IsMarking signals later statement x set
  assign_marked pieces place blocking right made statement inside x set is goes tells made_is around
      bits =
      subst (λ z. IsMarking signals later z x set) (sym is)
      (record {
        is_marked = record {
          parts = ap (λ (z : FlatStatement). in_sequence z nothing)
              (goes ∙ ap (assign pieces place blocking)
              (made_is ∙ ap (λ b. marked_tree signals true b right) around));
          tells = tells;
        };
        has_bits = bits;
      })
