-- Bodies of processes, marked one after the other.
use Rattle.std.proofs.Common.{◌≡◌, ℕ, ◌+◌, ◌<◌, Bool, false, ◌&&◌, List, [], ◌∷◌}
use Rattle.std.proofs.Common.{◌++◌, length, map, take, get_or, Option, Some, None, sym, ap}
use Rattle.std.proofs.Common.{subst, ◌∙◌, true}
use Rattle.std.specs.List.{AllZip}
use Rattle.sv_flat.specs.declared.designs.Process.{Process}
use Rattle.sv_flat.specs.Design.{SignalForm, FlatStatement, ProcessForm}
use Rattle.sv_flat.specs.Processes.{is_block}
use Rattle.sv_flat.specs.Readings.{no_bits, is_followed}
use Rattle.sv_flat.specs.Views.{process_form}
use Rattle.sv_rules.specs.declared.surroundings.Surrounding.{Nothing}
use Rattle.sv_rules.specs.Surroundings.{in_surrounding}
use Rattle.sv_rules.proofs.BlockPasses.{in_surrounding-nothing}
use Rattle.sv_obl.specs.declared.marked.Marked.{Marked}
use Rattle.sv_obl.specs.Marked.{has_copy}
use Rattle.sv_obl.specs.MarkedBodies.{marked_statement, IsMarkedOf, IsMarkedBody}
use Rattle.sv_obl.specs.Wanted.{marked as marked_as}
use Rattle.sv_obl.proofs.FormLists.{forms_more}
use Rattle.sv_obl.proofs.SameCopies.{same_copies}
use Rattle.sv_obl.proofs.Unmarked.{none_earlier}

-- ---- one process

module _ (signals : List SignalForm) (process : ProcessForm) where
  pub not_marked : is_block process.kind ≡ false → IsMarkedBody signals process None
  not_marked is = λ r at. ap (λ b. b && is_followed signals r) is

  module _ (x : Marked) (block : is_block process.kind ≡ true)
      (is : IsMarkedOf (marked_as signals true process.body (in_surrounding Nothing)) x) (n : ℕ)
      (many : n ≡ length signals) (found : Bool)
      (tells : found ≡ has_copy n (marked_statement x)) where
    abbrev in_it : FlatStatement
    in_it = marked_as signals (is_block process.kind) process.body no_bits

    is_it : IsMarkedOf in_it x
    is_it = subst (λ b. IsMarkedOf (marked_as signals b process.body no_bits) x) (sym block)
        (subst (λ l. IsMarkedOf (marked_as signals true process.body l) x)
        in_surrounding-nothing is)

    pub is_marked : IsMarkedBody signals process (Some x)
    is_marked = (is_it, block)

    pub none_found : found ≡ false → IsMarkedBody signals process None
    none_found so =
        none_earlier signals (is_block process.kind) process.body no_bits no_bits
        (sym (same_copies (length signals) (marked_statement x) in_it is_it.parts)
        ∙ sym (tells ∙ ap (λ k. has_copy k (marked_statement x)) many)
        ∙ so)

-- ---- processes

one_more : {X Y : Type 0} (same : X → Y → Type 0) (xs : List X) (ys : List Y) (x : X) (y : Y)
    → AllZip same xs ys → same x y → AllZip same (xs ++ x ∷ []) (ys ++ y ∷ [])
one_more same [] [] x y all one = (one, tt)
one_more same [] (z ∷ ys) x y all one = absurd all
one_more same (z ∷ xs) [] x y all one = absurd all
one_more same (z ∷ xs) (w ∷ ys) x y all one = (all.0, one_more same xs ys x y all.1 one)

pub next_body : (signals : List SignalForm) (ps : List Process) (i : ℕ) (p : Process)
    (old new : List (Option Marked)) (x : Option Marked) → i < length ps → p ≡ get_or ps i p
    → AllZip (IsMarkedBody signals) (map process_form (take i ps)) old
    → IsMarkedBody signals (process_form p) x → new ≡ old ++ x ∷ []
    → AllZip (IsMarkedBody signals) (map process_form (take (i + 1) ps)) new
next_body signals ps i p old new x inside is so made items =
    subst (AllZip (IsMarkedBody signals) (map process_form (take (i + 1) ps))) (sym items)
    (subst (λ fs. AllZip (IsMarkedBody signals) fs (old ++ x ∷ []))
    (sym (forms_more process_form ps i p inside is))
    (one_more (IsMarkedBody signals) (map process_form (take i ps)) old (process_form p) x so made))
