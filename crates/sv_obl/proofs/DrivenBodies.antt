-- A target by its number in the design, and the process that drives it, whose body is held with
-- its earlier reads wanted where it has some.
use Rattle.std.proofs.Common.{◌≡◌, ℕ, zero, suc, ◌<◌, List, [], ◌∷◌, length, get_or}
use Rattle.std.proofs.Common.{Option, Some, None, sym, ap, subst, ◌∙◌, arith}
use Rattle.std.specs.Prelude.{IsTrue, Contains, IfSome, option_copied}
use Rattle.std.specs.Borrow.{Bor}
use Rattle.std.specs.List.{AllZip}
use Rattle.std.proofs.lemmas.List.Elements.{Contains-get_or}
use Rattle.std.proofs.lemmas.List.Quantifiers.{position-Some}
use Rattle.std.proofs.lemmas.Slice.Zip.{AllZip-long}
use Rattle.sv_flat.specs.Assigned.{assigns}
use Rattle.sv_flat.specs.Clocks.{processes_of}
use Rattle.sv_flat.specs.Design.{SignalForm, ProcessForm, FlatDesign}
use Rattle.sv_flat.specs.SignalLists.{driver_of}
use Rattle.sv_flat.specs.Soundness.{is_signal}
use Rattle.sv_flat.specs.Views.{design_of}
use Rattle.sv_flat.specs.declared.designs.Flat.{Flat}
use Rattle.sv_system.proofs.Lists.{Contains-nil, Contains-filter}
use Rattle.sv_flat.proofs.Members.{only}
use Rattle.sv_design.specs.Designs.{IsDesign}
use Rattle.sv_obl.specs.declared.body_slices.Bodies.{Bodies}
use Rattle.sv_obl.specs.declared.marked.Marked.{Marked}
use Rattle.sv_obl.specs.MarkedBodies.{IsMarkedBody, IsMarkedFor, HasCopies, AreBodiesOf}
use Rattle.sv_obl.proofs.OneDriver.{no_driver, one_driver_at}
use Rattle.sv_obl.proofs.FormLists.{signal_known}

marked_at : (signals : List SignalForm) (ps : List ProcessForm) (xs : List (Option Marked)) (k : ℕ)
    (p : ProcessForm) (x : Option Marked) → AllZip (IsMarkedBody signals) ps xs → k < length xs
    → get_or ps k p ≡ p → x ≡ get_or xs k x → IsMarkedBody signals p x
marked_at signals [] [] k p x all inside there is = absurd (omega arith)
marked_at signals [] (y ∷ xs) k p x all inside there is = absurd all
marked_at signals (q ∷ ps) [] k p x all inside there is = absurd all
marked_at signals (q ∷ ps) (y ∷ xs) zero p x all inside there is =
    subst (λ z. IsMarkedBody signals p z) (sym is) (subst (λ z. IsMarkedBody signals z y) there all.0)
marked_at signals (q ∷ ps) (y ∷ xs) (suc k) p x all inside there is =
    marked_at signals ps xs k p x all.1 (omega arith) there is

-- where a marked body is held, copies of the signals are
pub held_copies : (design : FlatDesign) (held : Bodies) → AreBodiesOf design held → (k : ℕ)
    → k < length held.marked.items → (x : Option Marked) → x ≡ get_or held.marked.items k x
    → (found : Option (Bor Marked)) → option_copied found ≡ x
    → IfSome found (λ body. HasCopies design held)
held_copies design held are k inside x at None same = tt
held_copies design held are k inside x at (Some body) same =
    are.copies body.now (subst (Contains held.marked.items) (sym at ∙ sym same)
    (Contains-get_or held.marked.items k x inside))

-- ---- the process that drives the target

-- where no process drives the target, none assigns it
pub none_for : (flat : Flat) → IsDesign (design_of flat) → (s : ℕ) → s < length flat.signals.items
    → driver_of (design_of flat) s ≡ None → IsMarkedFor (design_of flat) s None
none_for flat is s known none q q_at own =
    let design = design_of flat in
    absurd (Contains-nil q (subst (λ ps. Contains ps q)
    (no_driver design is.is_sound is.is_admitted s (signal_known flat s known) none)
    (Contains-filter (λ (y : ProcessForm). assigns y.body s) (processes_of design) q q_at own)))

module _ (flat : Flat) (is : IsDesign (design_of flat)) (s : ℕ)
    (known : s < length flat.signals.items) (bodies : List (Option Marked))
    (all : AllZip (IsMarkedBody (design_of flat).signals) (processes_of (design_of flat)) bodies)
    (k : ℕ) (driven : driver_of (design_of flat) s ≡ Some k) (p : ProcessForm)
    (there : get_or (processes_of (design_of flat)) k p ≡ p) where
  abbrev design : FlatDesign
  design = design_of flat

  is_known : IsTrue (is_signal design.signals s)
  is_known = signal_known flat s known

  pub inside_marked : k < length bodies
  inside_marked =
      subst (λ n. k < n)
      (sym (AllZip-long (IsMarkedBody design.signals) (processes_of design) bodies all))
      (position-Some (λ (q : ProcessForm). assigns q.body s) (processes_of design) k p driven).0

  pub has_marked : (x : Option Marked) → x ≡ get_or bodies k x → IsMarkedBody design.signals p x
  has_marked x at =
      marked_at design.signals (processes_of design) bodies k p x all inside_marked there at

  -- so it is for whatever process assigns the target
  pub marked_for : (x : Option Marked) → x ≡ get_or bodies k x → (found : Option (Bor Marked))
      → option_copied found ≡ x → IsMarkedFor design s found
  marked_for x at found same q q_at own =
      let alone = (one_driver_at design is.is_sound is.is_admitted s is_known k p driven).2
      ∙ ap (λ y. y ∷ []) there in
      let is_p = only p q (subst (λ ps. Contains ps q) alone
      (Contains-filter (λ (y : ProcessForm). assigns y.body s) (processes_of design) q q_at own)) in
      subst (λ y. IsMarkedBody design.signals y (option_copied found)) is_p
      (subst (IsMarkedBody design.signals p) (sym same) (has_marked x at))
