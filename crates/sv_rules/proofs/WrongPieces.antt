-- The pieces of one assignment, one after the other.
use Rattle.std.proofs.Common.{◌≡◌, ℕ, ◌+◌, ◌<◌, Bool, nat_le, List, [], ◌∷◌, ◌++◌, length, cond}
use Rattle.std.proofs.Common.{get_or, drop, sym, ap, subst, ◌∙◌, Option}
use Rattle.std.specs.Prelude.{IsTrue, ◌&&◌, ◌||◌, ◌==◌}
use Rattle.std.specs.List.{list_all}
use Rattle.sv_flat.specs.declared.statements.Piece.{Piece}
use Rattle.sv_flat.specs.Design.{PieceForm, TypedTree, ProcessKind, FlatDesign}
use Rattle.sv_flat.specs.Breaches.{Breach}
use Rattle.sv_flat.specs.Soundness.{piece_fits}
use Rattle.sv_flat.specs.Assignments.{TargetForm, targets_after, target_breach, is_wrong_target}
use Rattle.sv_flat.specs.Views.{piece_form}
use Rattle.sv_flat.proofs.Depths.{first_of, second_of}
use Rattle.sv_graph.specs.declared.bit_sets.BitSet.{BitSet}
use Rattle.sv_rules.specs.declared.found.Found.{Found}
use Rattle.sv_rules.specs.Pieces.{piece_forms, HoldsPieces}
use Rattle.sv_graph.specs.BitSets.{is_set, in_bits}
use Rattle.sv_rules.specs.First.{FindsFirst, first_found}
use Rattle.sv_rules.specs.WrongAssigns.{wrong_of}
use Rattle.sv_rules.proofs.HeldPieces.{holds_more}
use Rattle.sv_rules.proofs.Firsts.{finds_both}
use Rattle.sv_rules.proofs.Sound.{piece_at, piece_has_bits}
use Rattle.sv_rules.proofs.WrongFacts.{one_target_more}

-- what was found in the pieces so far, with their bits, and what is left
abbrev pub PiecesSoFar : FlatDesign → ProcessKind → Bool → (all left : List PieceForm) →
    Option Found → BitSet → Type 0
PiecesSoFar design kind blocking all left found before =
    (done : List Breach) × (passed : List PieceForm) × FindsFirst 601 done found
    × (wrong_of design kind (targets_after [] all blocking) ≡
    done ++ wrong_of design kind (targets_after passed left blocking))
    × HoldsPieces before passed
    × ((e : TypedTree) × IsTrue (list_all (piece_fits design.signals e) left))

module _ (design : FlatDesign) (kind : ProcessKind) (blocking : Bool) (pieces : List Piece) (i : ℕ)
    (d : Piece)
    (inside : i < length pieces) where
  abbrev here : PieceForm
  here = piece_form (get_or pieces i d)

  pub one_piece_more :
      (found other next : Option Found) (before after : BitSet) (wrong : Bool) (mask : ℕ)
      → PiecesSoFar design kind blocking (piece_forms pieces) (piece_forms (drop i pieces))
      found before
      → ((passed : List PieceForm) → HoldsPieces before passed
      → wrong ≡ is_wrong_target design kind (record {
        piece = here;
        before = passed;
        blocking = blocking;
      }))
      → FindsFirst 601 (cond wrong
      (target_breach (record { piece = here; before = []; blocking = blocking }) ∷ []) []) other
      → next ≡ first_found found other
      → ((b : ℕ) → is_set mask b ≡ (nat_le here.low b && nat_le b here.high))
      → ((s b : ℕ) → in_bits after s b ≡
      (in_bits before s b || ((here.signal == s) && is_set mask b)))
      → PiecesSoFar design kind blocking (piece_forms pieces) (piece_forms (drop (i + 1) pieces))
      next after
  one_piece_more found other next before after wrong mask so_far is_wrong finds is bits gains =
      let done = so_far.0 in
      let passed = so_far.1 in
      let e = so_far.5.0 in
      let left = piece_forms (drop (i + 1) pieces) in
      let at = piece_at pieces i d inside in
      let fits = subst (λ ps. IsTrue (list_all (piece_fits design.signals e) ps)) at so_far.5.1 in
      let target : TargetForm = record { piece = here; before = passed; blocking = blocking } in
      let one = cond wrong (target_breach target ∷ []) [] in (
        done ++ one,
        here ∷ passed,
        subst (FindsFirst 601 (done ++ one)) (sym is)
            (finds_both done one 601 found other so_far.2 finds),
        one_target_more design kind
            (wrong_of design kind (targets_after [] (piece_forms pieces) blocking)) done target
            (targets_after (here ∷ passed) left blocking) wrong (is_wrong passed so_far.4)
            (so_far.3 ∙ ap (λ ps.
            done ++ wrong_of design kind (targets_after passed ps blocking)) at),
        holds_more before after here passed mask bits
            (piece_has_bits design.signals e here
            (first_of (piece_fits design.signals e here)
            (list_all (piece_fits design.signals e) left) fits))
            so_far.4 gains,
        (
          e,
          second_of (piece_fits design.signals e here)
              (list_all (piece_fits design.signals e) left) fits,
        ),
      )
