-- What stands for a name once values are put in, and the pieces of a right side one by one.
use Rattle.std.proofs.Common.{◌≡◌, ℕ, zero, suc, ◌-◌, ◌<◌, ◌≤◌, Bool, true, false, not, ◌&&◌, ◌==◌, cond}
use Rattle.std.proofs.Common.{ℤ, pos, negsuc, List, [], ◌∷◌, length, get_or, refl, sym, ap, ap₂, subst, ◌∙◌, arith}
use Rattle.std.specs.List.{list_any}
use Rattle.std.proofs.lemmas.Bool.{false≢true, lt-leb, le-leb}
use Rattle.std.proofs.lemmas.List.{length-map}
use Rattle.std.proofs.lemmas.List.Elements.{All-head, All-tail}
use Rattle.sv_num.specs.declared.faults.Place.{Place}
use Rattle.sv_flat.specs.ByNumber.{signal_forms}
use Rattle.sv_flat.specs.Design.{SignalForm, PieceForm, TypedTree, typed, constant}
use Rattle.sv_flat.specs.Readings.{ReadForm, bit_read, whole_read, indexed_read, is_constant}
use Rattle.sv_flat.specs.Values.{signal_of, signal_width, number_of}
use Rattle.sv_flat.specs.Views.{signal_form, piece_form, typed_tree}
use Rattle.sv_flat.specs.declared.signals.Signal.{Signal}
use Rattle.sv_flat.specs.declared.statements.Piece.{Piece}
use Rattle.sv_paths.specs.declared.exchange.Put.{Put}
use Rattle.sv_paths.specs.declared.exchange.Put.TheVariants.{Pieces, Zero}
use Rattle.sv_obl.specs.Exchange.{Instead, name, content}
use Rattle.sv_paths.specs.PutIn.{put_for, is_put_for, value_put, AreInWords}
use Rattle.sv_obl.specs.Views.{piece_forms}
use Rattle.sv_obl.specs.Wanted.{is_copy, original, put_value}

abbrev IsInWord : PieceForm → Type 0
IsInWord p = (p.low ≤ p.high) × (p.high < 64) × (p.from < 64)

-- each of the pieces has bits of a word
pub words_at : (pieces : List Piece) (i : ℕ) (d : Piece) → i < length pieces
    → AreInWords (piece_forms pieces)
    → ((get_or pieces i d).low ≤ (get_or pieces i d).high) × ((get_or pieces i d).high < 64)
    × ((get_or pieces i d).from < 64)
words_at [] i d inside all = absurd (omega arith)
words_at (p ∷ pieces) zero d inside all =
    All-head IsInWord (piece_form p) (piece_forms pieces) all
words_at (p ∷ pieces) (suc i) d inside all = words_at pieces i d (omega arith)
    (All-tail IsInWord (piece_form p) (piece_forms pieces) all)

-- ---- what stands for a name

module _ (items : List Signal) (r : ReadForm) where
  abbrev forms : List SignalForm
  forms = signal_forms items

  abbrev own : ℕ
  own = original forms r.signal

  abbrev zero_put : ℕ → TypedTree
  zero_put s = typed (signal_width forms s) (signal_of forms s).signed (constant 0)

  no_copy : r.signal < length items → is_copy forms r.signal ≡ false
  no_copy below = lt-leb (length forms) r.signal (rw length-map below)

  a_copy : length items ≤ r.signal → is_copy forms r.signal ≡ true
  a_copy above = le-leb (length forms) r.signal (rw length-map above)

  own_is : (s : ℕ) → s ≡ r.signal - length items → s ≡ own
  own_is s is = is ∙ ap (λ n. r.signal - n) (sym (length-map items signal_form))

  -- a settled name
  pub stays_settled : (put : Put) → r.signal < length items → name r.signal ≡ put_for forms put r
  stays_settled (Pieces pieces right) below =
      let given = piece_forms pieces.now in
      let some = list_any (λ (piece : PieceForm). piece.signal == own) given in
      sym (ap (λ b. cond (b && some)
      (content own (put_value forms given (typed_tree right.now) own r.place)) (name r.signal))
      (no_copy below))
  stays_settled Zero below =
      sym (ap (λ b. cond (not b) (name r.signal) (content own (zero_put own))) (no_copy below))

  -- a wanted name for which nothing is put
  pub stays_wanted : (put : Put) (s : ℕ) → s ≡ r.signal - length items
      → is_put_for put s ≡ false → name r.signal ≡ put_for forms put r
  stays_wanted (Pieces pieces right) s is none =
      let given = piece_forms pieces.now in
      let value = content own (put_value forms given (typed_tree right.now) own r.place) in
      let some = list_any (λ (piece : PieceForm). piece.signal == own) given in
      let so : some ≡ false = subst (λ (t : ℕ).
      list_any (λ (piece : PieceForm). piece.signal == t) given ≡ false) (own_is s is) none in
      sym (ap (λ b. cond (is_copy forms r.signal && b) value (name r.signal)) so
      ∙ never (is_copy forms r.signal) value)
    where
      never : (b : Bool) (x : Instead) → cond (b && false) x (name r.signal) ≡ name r.signal
      never true x = refl
      never false x = refl
  stays_wanted Zero s is none = absurd (false≢true (sym none))

  -- one for which a value is
  pub is_put : (put : Put) (s : ℕ) → s ≡ r.signal - length items → length items ≤ r.signal
      → is_put_for put s ≡ true → content s (value_put forms put s r.place) ≡ put_for forms put r
  is_put (Pieces pieces right) s is above some =
      let given = piece_forms pieces.now in
      let tree = typed_tree right.now in
      let so : list_any (λ (piece : PieceForm). piece.signal == own) given ≡ true = subst (λ (t : ℕ).
      list_any (λ (piece : PieceForm). piece.signal == t) given ≡ true) (own_is s is) some in
      ap (λ t. content t (put_value forms given tree t r.place)) (own_is s is)
      ∙ sym (ap₂ (λ a b. cond (a && b) (content own (put_value forms given tree own r.place))
      (name r.signal)) (a_copy above) so)
  is_put Zero s is above some =
      ap (λ t. content t (zero_put t)) (own_is s is)
      ∙ sym (ap (λ b. cond (not b) (name r.signal) (content own (zero_put own))) (a_copy above))

-- ---- the name of an indexed read

module _ (signals : List SignalForm) (s : ℕ) (place : Place) (index : TypedTree) where
  by_number : (z : ℤ) → ((bit_read s place z).signal ≡ s) × ((bit_read s place z).place ≡ place)
  by_number (pos i) = (refl, refl)
  by_number (negsuc i) = (refl, refl)

  by_test : (b : Bool)
      → ((cond b (bit_read s place (number_of signals (λ t. 0) index))
      (whole_read signals s place)).signal ≡ s)
      × ((cond b (bit_read s place (number_of signals (λ t. 0) index))
      (whole_read signals s place)).place ≡ place)
  by_test true = by_number (number_of signals (λ t. 0) index)
  by_test false = (refl, refl)

  pub indexed_name : ((indexed_read signals s place index).signal ≡ s)
      × ((indexed_read signals s place index).place ≡ place)
  indexed_name = by_test (is_constant index)
