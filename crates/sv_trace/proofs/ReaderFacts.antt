-- What a reader has read, after each of its calls.
use Rattle.std.proofs.Common.{◌≡◌, ℕ, ◌+◌, ◌^◌, ◌<◌, false, List, [], ◌∷◌, ◌++◌, length, map}
use Rattle.std.proofs.Common.{refl, sym, ap, ◌∙◌, subst, Option, Some, None, get_or}
use Rattle.std.proofs.Common.{Bool, arith, pow_pos, ◌≤◌}
use Rattle.std.specs.Prelude.{Result, Ok, Err, All, IfSome, replicate}
use Rattle.std.specs.Option.{is_some, option_to_list}
use Rattle.std.specs.Result.{result_err}
use Rattle.std.proofs.lemmas.Bool.{false≢true}
use Rattle.std.proofs.lemmas.List.{length-map, get_or-map, get_or-replicate, length-replicate}
use Rattle.std.proofs.lemmas.List.{length-append}
use Rattle.std.proofs.lemmas.List.Elements.{All-head, All-tail}
use Rattle.sv_flat.specs.Design.{SignalForm, FlatDesign}
use Rattle.sv_flat.specs.SignalLists.{inputs, registers}
use Rattle.sv_flat.specs.Values.{signal_width}
use Rattle.sv_flat.specs.Given.{FitListed}
use Rattle.sv_texts.specs.declared.stimuli.StimKind.{StimKind}
use Rattle.sv_trace.specs.declared.faults.StimFault.{StimFault}
use Rattle.sv_trace.specs.declared.faults.StimFault.TheVariants.{Line, OutOfMemory}
use Rattle.sv_trace.specs.declared.forms.Register.{Register}
use Rattle.sv_trace.specs.Forms.{StimForm, form_of, register_in}
use Rattle.sv_trace.specs.Reading.{Said, Reading, HaveRead, HaveReadFront, HasRead, HasFed, IsCut}
use Rattle.sv_trace.specs.Reading.{UnlessFull, IfFull, answer_of, FitWidths, widths_of, text_of}
use Rattle.sv_trace.specs.Steps.{Stands, Stops, PieceRead, EndRead}
use Rattle.sv_trace.specs.Stimulus.{LinesRead, read_front, read_whole, fault_of}
use Rattle.sv_trace.proofs.Texts.{front_is, front_reads}
use Rattle.sv_trace.proofs.Stuck.{front_stays, whole_stays}

no_wrong : (read : LinesRead) → fault_of read ≡ None → read.wrong ≡ None
no_wrong read e = go read.right read.wrong e
  where
    go : (right : List (List ℕ)) (o : Option StimKind)
        → fault_of (record { right = right; wrong = o }) ≡ None → o ≡ None
    go right None w = refl
    go right (Some kind) w = cc

pub wrong_of : (read : LinesRead) (number : ℕ) (kind : StimKind)
    → fault_of read ≡ Some (Line number kind) → read.wrong ≡ Some kind
wrong_of read number kind e = go read.right read.wrong e
  where
    go : (right : List (List ℕ)) (o : Option StimKind)
        → fault_of (record { right = right; wrong = o }) ≡ Some (Line number kind) → o ≡ Some kind
    go right None w = cc
    go right (Some other) w = cc

whole : (read : LinesRead) → read.wrong ≡ None
    → read ≡ record { right = read.right; wrong = None }
whole read e = ap (λ o. let r : LinesRead = record { right = read.right; wrong = o } in r) e

stands_from : (bytes : List ℕ) (taken : List (List ℕ)) (r : Reading) → HasFed bytes taken r
    → r.fault ≡ None → Stands r.form bytes taken r.said r.rest
stands_from bytes taken r fed none =
    let read = read_front r.form bytes in
    let cut = fed.cut (ap is_some none) in
    record {
      right = read.right;
      cut = cut;
      good = sym (front_reads r.form bytes read.right r.rest cut)
          ∙ whole read (no_wrong read (sym fed.read.fault ∙ none));
      lines = fed.read.lines;
    }

fed_from : (bytes : List ℕ) (taken : List (List ℕ)) (new : Reading)
    → Stands new.form bytes taken new.said new.rest → new.fault ≡ None → HasFed bytes taken new
fed_from bytes taken new s none =
    let is = front_is new.form bytes s.right new.rest s.cut s.good in
    record {
      read = record {
        lines = subst (λ (r : LinesRead). HaveRead new.form r.right taken new.said)
            (sym is) s.lines;
        fault = none ∙ sym (ap fault_of is);
      };
      cut = λ still. subst (λ (r : LinesRead). IsCut bytes r.right new.rest) (sym is) s.cut;
    }

fed_stopped : (bytes : List ℕ) (taken : List (List ℕ)) (new : Reading) (fault : StimFault)
    → Stops (read_front new.form bytes) new.form taken new.said fault → new.fault ≡ Some fault
    → HasFed bytes taken new
fed_stopped bytes taken new fault s is = record {
  read = record { lines = s.lines; fault = is ∙ sym s.is };
  cut = λ none. absurd (false≢true (sym none ∙ ap is_some is));
}

-- a reading of these fields
abbrev pub reading_of : StimForm → Said → (rest : List ℕ) → (fault : Option StimFault) →
    (finished : Bool) → Reading
reading_of form said rest fault finished = record {
  form = form;
  said = said;
  rest = rest;
  fault = fault;
  finished = finished;
}

pub piece_fed : (form : StimForm) (old_said new_said : Said) (old_rest new_rest piece : List ℕ)
    (r : Result (Unit {0}) StimFault) (old new : Reading)
    → old ≡ reading_of form old_said old_rest None false
    → new ≡ reading_of form new_said new_rest (result_err r) false
    → ((bytes : List ℕ) (taken : List (List ℕ)) → Stands form bytes taken old_said old_rest
    → PieceRead form (bytes ++ piece) taken r new_said new_rest)
    → UnlessFull r ((bytes : List ℕ) (taken : List (List ℕ)) → HasFed bytes taken old
    → HasFed (bytes ++ piece) taken new)
piece_fed form os ns or nr piece (Ok done) old new o n reads = λ bytes taken fed.
    let before = subst (HasFed bytes taken) o fed in
    subst (HasFed (bytes ++ piece) taken) (sym n)
    (fed_from (bytes ++ piece) taken _ (reads bytes taken
    (stands_from bytes taken _ before refl)) refl)
piece_fed form os ns or nr piece (Err (Line number kind)) old new o n reads = λ bytes taken fed.
    let before = subst (HasFed bytes taken) o fed in
    subst (HasFed (bytes ++ piece) taken) (sym n)
    (fed_stopped (bytes ++ piece) taken _ (Line number kind)
    (reads bytes taken (stands_from bytes taken _ before refl)) refl)
piece_fed form os ns or nr piece (Err OutOfMemory) old new o n reads = tt

pub fed_still : (old : Reading) (piece : List ℕ) (fault : StimFault) → old.fault ≡ Some fault
    → UnlessFull (Err fault) ((bytes : List ℕ) (taken : List (List ℕ)) → HasFed bytes taken old
    → HasFed (bytes ++ piece) taken old)
fed_still old piece (Line number kind) is = λ bytes taken fed.
    let read = read_front old.form bytes in
    let same = front_stays old.form bytes piece kind
    (wrong_of read number kind (sym fed.read.fault ∙ is)) in
    record {
      read = subst (λ (r : LinesRead). HasRead r taken old) (sym same) fed.read;
      cut = λ none. absurd (false≢true (sym none ∙ ap is_some is));
    }
fed_still old piece OutOfMemory is = tt

-- what a reader said was read of the whole text, with this fault
read_to_end : (form : StimForm) (said : Said) (new : Reading) (bytes : List ℕ)
    (taken : List (List ℕ)) (fault : Option StimFault)
    → new.form ≡ form → new.said ≡ said → new.fault ≡ fault
    → HaveRead form (read_whole form bytes).right taken said
    → fault_of (read_whole form bytes) ≡ fault → HasRead (read_whole new.form bytes) taken new
read_to_end form said new bytes taken fault f s e lines is = record {
  lines = subst (λ g. HaveRead g (read_whole g bytes).right taken new.said) (sym f)
      (subst (λ z. HaveRead form (read_whole form bytes).right taken z) (sym s) lines);
  fault = e ∙ sym (ap (λ g. fault_of (read_whole g bytes)) f ∙ is);
}

pub end_read : (form : StimForm) (old_said new_said : Said) (old_rest new_rest : List ℕ)
    (r : Result (Unit {0}) StimFault) (old new : Reading)
    → old ≡ reading_of form old_said old_rest None false
    → new.form ≡ form → new.said ≡ new_said → new.fault ≡ result_err r
    → ((bytes : List ℕ) (taken : List (List ℕ)) → Stands form bytes taken old_said old_rest
    → EndRead form bytes taken r new_said)
    → UnlessFull r ((bytes : List ℕ) (taken : List (List ℕ)) → HasFed bytes taken old
    → HasRead (read_whole new.form bytes) taken new)
end_read form os ns or nr (Ok done) old new o f s e reads = λ bytes taken fed.
    let read = reads bytes taken (stands_from bytes taken _ (subst
    (HasFed bytes taken) o fed) refl) in
    read_to_end form ns new bytes taken None f s e read.lines read.fault
end_read form os ns or nr (Err (Line number kind)) old new o f s e reads = λ bytes taken fed.
    let read = reads bytes taken (stands_from bytes taken _ (subst
    (HasFed bytes taken) o fed) refl) in
    read_to_end form ns new bytes taken (Some (Line number kind)) f s e read.lines read.is
end_read form os ns or nr (Err OutOfMemory) old new o f s e reads = tt

pub end_still : (old : Reading) (fault : StimFault) → old.fault ≡ Some fault
    → UnlessFull (Err fault) ((bytes : List ℕ) (taken : List (List ℕ)) → HasFed bytes taken old
    → HasRead (read_whole old.form bytes) taken old)
end_still old (Line number kind) is = λ bytes taken fed.
    let read = read_front old.form bytes in
    subst (λ (r : LinesRead). HasRead r taken old)
    (sym (whole_stays old.form bytes kind (wrong_of read number kind (sym fed.read.fault ∙ is))))
    fed.read
end_still old OutOfMemory is = tt

-- ---- where memory ran out

-- what was read has a wrong line or none
never_full : (read : LinesRead) → fault_of read ≡ Some OutOfMemory → ⊥
never_full read e = go read.right read.wrong e
  where
    go : (right : List (List ℕ)) (o : Option StimKind)
        → fault_of (record { right = right; wrong = o }) ≡ Some OutOfMemory → ⊥
    go right None w = cc
    go right (Some kind) w = cc

-- a reader without memory has not read what was fed
pub full_still : (old : Reading) (fault : StimFault) (P : List ℕ → List (List ℕ) → Type 0)
    → old.fault ≡ Some fault
    → IfFull (Err fault) ((bytes : List ℕ) (taken : List (List ℕ)) → HasFed bytes taken old
    → P bytes taken)
full_still old (Line number kind) P is = tt
full_still old OutOfMemory P is = λ bytes taken fed.
    absurd (never_full (read_front old.form bytes) (sym fed.read.fault ∙ is))

module _ (form : StimForm) (old_said new_said : Said) (old_rest new_rest : List ℕ) (old : Reading)
    (is : old ≡ reading_of form old_said old_rest None false) where
  pub piece_full : (piece : List ℕ) (r : Result (Unit {0}) StimFault)
      → ((bytes : List ℕ) (taken : List (List ℕ)) → Stands form bytes taken old_said old_rest
      → PieceRead form (bytes ++ piece) taken r new_said new_rest)
      → IfFull r ((bytes : List ℕ) (taken : List (List ℕ)) → HasFed bytes taken old
      → HaveReadFront form (read_front form (bytes ++ piece)).right taken new_said)
  piece_full piece (Ok done) reads = tt
  piece_full piece (Err (Line number kind)) reads = tt
  piece_full piece (Err OutOfMemory) reads = λ bytes taken fed.
      reads bytes taken (stands_from bytes taken _ (subst (HasFed bytes taken) is fed) refl)

  pub end_full : (r : Result (Unit {0}) StimFault)
      → ((bytes : List ℕ) (taken : List (List ℕ)) → Stands form bytes taken old_said old_rest
      → EndRead form bytes taken r new_said)
      → IfFull r ((bytes : List ℕ) (taken : List (List ℕ)) → HasFed bytes taken old
      → HaveReadFront form (read_whole form bytes).right taken new_said)
  end_full (Ok done) reads = tt
  end_full (Err (Line number kind)) reads = tt
  end_full (Err OutOfMemory) reads = λ bytes taken fed.
      reads bytes taken (stands_from bytes taken _ (subst (HasFed bytes taken) is fed) refl)

pub answered : (r : Result (Unit {0}) StimFault) → r ≡ answer_of (result_err r)
answered (Ok done) = refl
answered (Err fault) = refl

-- ---- fitting values

fit_listed : (signals : List SignalForm) (listed values : List ℕ)
    → FitWidths (map (signal_width signals) listed) values → FitListed signals listed values
fit_listed signals listed values fit = record {
  count = fit.count ∙ length-map listed (signal_width signals);
  each = λ k inside.
      subst (λ w. get_or values k 0 < 2 ^ w)
      (get_or-map (signal_width signals) listed k 0 0 inside)
      (fit.each k (subst (λ n. k < n) (sym (length-map listed (signal_width signals))) inside));
}

register_widths : (design : FlatDesign) (listed : List ℕ)
    → widths_of (map (register_in design.signals) listed) ≡ map (signal_width design.signals) listed
register_widths design [] = refl
register_widths design (s ∷ listed) =
    ap (λ ws. signal_width design.signals s ∷ ws) (register_widths design listed)

pub start_fits : (form : StimForm) (values : List ℕ) (design : FlatDesign)
    → FitWidths (widths_of form.registers) values → form ≡ form_of design
    → FitListed design.signals (registers design) values
start_fits form values design fit is =
    fit_listed design.signals (registers design) values
    (subst (λ ws. FitWidths ws values)
    (ap (λ (f : StimForm). widths_of f.registers) is
    ∙ register_widths design (registers design)) fit)

pub cycle_fits : (form : StimForm) (values : List ℕ) (design : FlatDesign)
    → FitWidths form.inputs values → form ≡ form_of design
    → FitListed design.signals (inputs design) values
cycle_fits form values design fit is =
    fit_listed design.signals (inputs design) values
    (subst (λ ws. FitWidths ws values) (ap (λ (f : StimForm). f.inputs) is) fit)

-- ---- on the views of fields

-- the reading with no fault, or another one, that is not finished
still_open : (form : StimForm) (said : Said) (rest : List ℕ) (fault other : Option StimFault)
    (finished : Bool) → fault ≡ other → finished ≡ false
    → reading_of form said rest fault finished ≡ reading_of form said rest other false
still_open form said rest fault other fin is unended =
    ap (λ f. reading_of form said rest f fin) is ∙ ap (reading_of form said rest other) unended

pub piece_read : (form : StimForm) (old_said new_said : Said) (old_rest new_rest piece : List ℕ)
    (r : Result (Unit {0}) StimFault) (old : Reading) (old_fault new_fault : Option StimFault)
    (finished : Bool)
    → reading_of form old_said old_rest old_fault finished ≡ old
    → old_fault ≡ None → finished ≡ false → new_fault ≡ result_err r
    → ((bytes : List ℕ) (taken : List (List ℕ)) → Stands form bytes taken old_said old_rest
    → PieceRead form (bytes ++ piece) taken r new_said new_rest)
    → UnlessFull r ((bytes : List ℕ) (taken : List (List ℕ)) → HasFed bytes taken old
    → HasFed (bytes ++ piece) taken (reading_of form new_said new_rest new_fault finished))
piece_read form os ns or nr piece r old of nf fin is none unended err reads =
    piece_fed form os ns or nr piece r old _
    (sym is ∙ still_open form os or of None fin none unended)
    (still_open form ns nr nf (result_err r) fin err unended) reads

pub opened : (form : StimForm) (said : Said) (rest : List ℕ) (old : Reading)
    (fault : Option StimFault) (finished : Bool)
    → reading_of form said rest fault finished ≡ old
    → fault ≡ None → finished ≡ false
    → old ≡ reading_of form said rest None false
opened form said rest old fault fin is none unended =
    sym is ∙ still_open form said rest fault None fin none unended

pub start_listed : (inside now : Reading) → inside ≡ now
    → FitWidths (widths_of inside.form.registers) inside.said.start → (design : FlatDesign)
    → now.form ≡ form_of design → FitListed design.signals (registers design) now.said.start
start_listed inside now same fit design is =
    start_fits now.form now.said.start design
    (subst (λ (r : Reading). FitWidths (widths_of r.form.registers) r.said.start) same fit) is

-- ---- a cycle that is taken off

pub popped : {X : Type 0} (f : X → List ℕ) (P : List ℕ → Type 0) (o : Option X) (xs ys : List X)
    → xs ≡ option_to_list o ++ ys → All P (map f xs) → All P (map f ys)
popped f P None xs ys e all = subst (λ zs. All P (map f zs)) e all
popped f P (Some x) xs ys e all =
    All-tail P (f x) (map f ys) (subst (λ zs. All P (map f zs)) e all)

pub popped_fits : {X : Type 0} (f : X → List ℕ) (o : Option X) (xs ys : List X)
    (form now : StimForm) → form ≡ now → xs ≡ option_to_list o ++ ys
    → All (FitWidths form.inputs) (map f xs)
    → IfSome o (λ x. (design : FlatDesign) → now ≡ form_of design →
    FitListed design.signals (inputs design) (f x))
popped_fits f None xs ys form now same e all = tt
popped_fits f (Some x) xs ys form now same e all = λ design is.
    cycle_fits form (f x) design
    (All-head (FitWidths form.inputs) (f x) (map f ys)
    (subst (λ zs. All (FitWidths form.inputs) (map f zs)) e all))
    (same ∙ is)

pub new_fits : (registers : List Register) (n : ℕ) (start : List ℕ) → n ≡ length registers
    → start ≡ replicate n 0 → FitWidths (widths_of registers) start
new_fits registers n start count is =
    let widths : length (widths_of registers) ≡ length registers =
    length-map registers (λ (r : Register). r.width) in
    record {
      count = ap length is ∙ length-replicate n 0 ∙ count ∙ sym widths;
      each = λ k inside.
          subst (λ v. v < 2 ^ get_or (widths_of registers) k 0)
          (sym (ap (λ vs. get_or vs k 0) is ∙ get_or-replicate n k 0 0 (omega arith)))
          (pow_pos (get_or (widths_of registers) k 0));
    }

-- ---- room

text_length : (lines : List (List ℕ)) → length lines ≤ length (text_of lines)
text_length [] = omega arith
text_length (line ∷ lines) =
    omega (
      arith,
      text_length lines,
      length-append (line ++ 10 ∷ []) (text_of lines),
      length-append line (10 ∷ []),
    )

-- the number of the next line and what was fed of it are no more than all bytes and one
pub room_left : (bytes : List ℕ) (taken : List (List ℕ)) (r : Reading) → HasFed bytes taken r
    → r.fault ≡ None → r.said.line + length r.rest ≤ length bytes + 1
room_left bytes taken r fed none =
    let right = (read_front r.form bytes).right in
    let cut = fed.cut (ap is_some none) in
    omega (
      arith,
      ap length cut.text,
      length-append (text_of right) r.rest,
      text_length right,
      fed.read.lines.line,
    )
