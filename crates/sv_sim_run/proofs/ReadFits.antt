-- What right lines say fits the form: the starting values and the values of each cycle.
use Rattle.std.proofs.Common.{◌≡◌, ℕ, zero, suc, ◌+◌, ◌<◌, ◌≤◌, ◌^◌, Bool, true, false, cond, ◌&&◌}
use Rattle.std.proofs.Common.{List, [], ◌∷◌, ◌++◌, length, map, get_or, set, refl, sym, ◌∙◌}
use Rattle.std.proofs.Common.{subst, arith, ⊎_elim, Option, Some, None, ltb-true, nat_lt}
use Rattle.std.proofs.Common.{nat_le}
use Rattle.std.proofs.Common.{get_or-set_same, get_or-set_other}
use Rattle.std.specs.Prelude.{All, replicate}
use Rattle.std.specs.Char.{is_digit}
use Rattle.std.specs.List.{list_all, list_any}
use Rattle.std.specs.Str.{bytes_eq}
use Rattle.std.specs.Str.Parse.{digits_value}
use Rattle.std.proofs.Math.ListN.{length-set}
use Rattle.std.proofs.lemmas.Bool.{cases_Bool, cases_lt, cases_eq, false≢true}
use Rattle.std.proofs.lemmas.List.{length-map, get_or-map, get_or-replicate, length-replicate}
use Rattle.std.proofs.lemmas.List.Elements.{All-append, All-cons}
use Rattle.std.proofs.lemmas.List.Quantifiers.{position-Some}
use Rattle.std.proofs.lemmas.Slice.Eq.{bytes_eq-Decides}
use Rattle.sv_texts.specs.declared.stimuli.StimKind.{StimKind}
use Rattle.sv_texts.specs.declared.stimuli.StimKind.TheVariants.{TooLong, Header, Name, Value}
use Rattle.sv_trace.specs.declared.forms.Register.{Register}
use Rattle.sv_trace.specs.Forms.{StimForm}
use Rattle.sv_trace.specs.Reading.{Said, IsSaid, HaveRead, FitWidths, widths_of}
use Rattle.sv_trace.specs.Steps.{cycle_fault, early_fault}
use Rattle.sv_trace.specs.Stimulus.{line_fault, read_next, read_after, is_start}
use Rattle.sv_trace.specs.Stimulus.{start_name, start_digits, start_fault, place_of, starts_at}
use Rattle.sv_trace.specs.Stimulus.{is_value, width_at, are_values, words, start_of, cycles_of}
use Rattle.sv_trace.specs.Stimulus.{read_front, read_whole, lines_if, parts}
use Rattle.sv_trace.proofs.ReaderFacts.{new_fits}
use Rattle.sv_trace.proofs.SaidFacts.{cycle_fault_is, early_fault_is}
use Rattle.sv_trace.proofs.SaidFacts.{after_header, after_cycle, after_start}
use Rattle.sv_trace.proofs.Texts.{long_is_wrong}
use Rattle.sv_sim_run.proofs.ReadFronts.{ended_right}

-- ---- values

none_at : {X : Type 0} (P : X → Type 0) → All P []
none_at P k d h = absurd (omega arith)

value_parts : (a b c d : Bool) → (a && b && c && d) ≡ true → d ≡ true
value_parts a b c true e = refl
value_parts true true true false e = e
value_parts true true false false e = e
value_parts true false c false e = e
value_parts false b c false e = e

value_fits : (width : ℕ) (digits : List ℕ) → is_value width digits ≡ true
    → digits_value 16 digits < 2 ^ width
value_fits width digits e =
    ltb-true (digits_value 16 digits) (2 ^ width)
    (value_parts (nat_le 1 (length digits)) (nat_le (length digits) 16)
    (list_all (λ c. is_digit c 16) digits) (nat_lt (digits_value 16 digits) (2 ^ width)) e)

both : (a b : Bool) → (a && b) ≡ true → (a ≡ true) × (b ≡ true)
both true b e = (refl, e)
both false b e = absurd (false≢true e)

values_fit : (widths : List ℕ) (ws : List (List ℕ)) → are_values widths ws ≡ true
    → FitWidths widths (map (digits_value 16) ws)
values_fit [] [] e = record { count = refl; each = λ k inside. absurd (omega arith) }
values_fit [] (w ∷ ws) e = absurd (false≢true e)
values_fit (width ∷ widths) [] e = absurd (false≢true e)
values_fit (width ∷ widths) (w ∷ ws) e =
    let parts = both (is_value width w) (are_values widths ws) e in
    let rest = values_fit widths ws parts.1 in
    record { count = omega (arith, rest.count); each = at rest (value_fits width w parts.0) }
  where
    at : FitWidths widths (map (digits_value 16) ws) → digits_value 16 w < 2 ^ width → (k : ℕ)
        → k < length (width ∷ widths)
        → get_or (map (digits_value 16) (w ∷ ws)) k 0 < 2 ^ get_or (width ∷ widths) k 0
    at rest first zero inside = first
    at rest first (suc k) inside = rest.each k (omega arith)

-- ---- one more right line

record Says (form : StimForm) (right : List (List ℕ)) : Type 0 where
  said : Said
  read : HaveRead form right [] said
  fits : IsSaid form said

none_says : (form : StimForm) → is_start form.header ≡ false → Says form []
none_says form plain =
    let zeros = replicate (length form.registers) 0 in
    record {
      said = record {
        begun = false;
        given = replicate (length form.registers) false;
        start = zeros;
        cycles = [];
        line = 1;
      };
      read = record {
        header = plain;
        begun = refl;
        starting = λ e. record {
          starts = refl;
          flags = λ k inside. get_or-replicate (length form.registers) k false false inside;
        };
        cycling = λ e. absurd (false≢true e);
        start = refl;
        cycles = refl;
        line = refl;
      };
      fits = record {
        given = length-replicate (length form.registers) false;
        start = new_fits form.registers (length form.registers) zeros refl refl;
        cycles = none_at (FitWidths form.inputs);
      };
    }

is_short : (form : StimForm) (right : List (List ℕ)) (line : List ℕ)
    → line_fault form right line ≡ None → length line ≤ 1048576
is_short form right line good = ⊎_elim
    (λ large.
    let never : None ≡ Some TooLong = sym good ∙ long_is_wrong form right line large in cc)
    (λ short. short)
    (cases_lt 1048576 (length line))

right_cycle : (form : StimForm) (line : List ℕ) → cycle_fault form line ≡ None
    → are_values form.inputs (words line) ≡ true
right_cycle form line e = go (are_values form.inputs (words line)) e
  where
    go : (b : Bool) → cond b None (Some Value) ≡ None → b ≡ true
    go true e = refl
    go false e = cc

cycle_says : (form : StimForm) (right : List (List ℕ)) (line : List ℕ) (s : Says form right)
    → s.said.begun ≡ true → line_fault form right line ≡ None → Says form (right ++ line ∷ [])
cycle_says form right line s begun good =
    let fault = cycle_fault_is form right line (is_short form right line good)
    (sym s.read.begun ∙ begun) in
    let values = values_fit form.inputs (words line)
    (right_cycle form line (sym fault ∙ good)) in
    record {
      said = record s.said {
        cycles = s.said.cycles ++ map (digits_value 16) (words line) ∷ [];
        line = s.said.line + 1;
      };
      read = after_cycle form right [] line s.said s.read begun;
      fits = record {
        given = s.fits.given;
        start = s.fits.start;
        cycles = All-append (FitWidths form.inputs) s.said.cycles
            (map (digits_value 16) (words line) ∷ []) s.fits.cycles
            (All-cons (FitWidths form.inputs) (map (digits_value 16) (words line)) [] values
            (none_at (FitWidths form.inputs)));
      };
    }

header_says : (form : StimForm) (right : List (List ℕ)) (line : List ℕ) (s : Says form right)
    → s.said.begun ≡ false → bytes_eq line form.header ≡ true → Says form (right ++ line ∷ [])
header_says form right line s begun header = record {
  said = record s.said { begun = true; line = s.said.line + 1 };
  read = after_header form right [] line s.said s.read begun header
      ((bytes_eq-Decides line form.header).0 header);
  fits = record { given = s.fits.given; start = s.fits.start; cycles = s.fits.cycles };
}

-- a right start gives some register a value
record Starts (form : StimForm) (line : List ℕ) : Type 0 where
  is : is_start line ≡ true
  place : ℕ
  at : place_of form.registers (start_name line) ≡ Some place
  value : is_value (width_at form.registers place) (start_digits line) ≡ true

right_start : (form : StimForm) (given : ℕ → Bool) (line : List ℕ)
    → early_fault form given line ≡ None → Starts form line
right_start form given line e =
    go (is_start line) refl (place_of form.registers (start_name line)) refl e
  where
    go : (b : Bool) → is_start line ≡ b → (o : Option ℕ)
        → place_of form.registers (start_name line) ≡ o
        → cond b (start_fault form.registers given (start_digits line) o) (Some Header) ≡ None
        → Starts form line
    go false is o at w = cc
    go true is None at w = cc
    go true is (Some place) at w =
        by_value (given place) (is_value (width_at form.registers place) (start_digits line)) refl w
      where
        by_value : (g v : Bool)
            → is_value (width_at form.registers place) (start_digits line) ≡ v
            → cond g (Some Name) (cond v None (Some Value)) ≡ None → Starts form line
        by_value true v val x = cc
        by_value false true val x =
            record { is = is; place = place; at = at; value = val }
        by_value false false val x = cc

set_fits : (registers : List Register) (start : List ℕ) (place v : ℕ)
    → FitWidths (widths_of registers) start → place < length registers
    → v < 2 ^ width_at registers place → FitWidths (widths_of registers) (set start place v)
set_fits registers start place v fit inside low =
    let count : length (widths_of registers) ≡ length registers =
    length-map registers (λ (r : Register). r.width) in
    let own : get_or (widths_of registers) place 0 ≡ width_at registers place =
    get_or-map (λ (r : Register). r.width) registers place
    (record { name = []; width = 0 }) 0 inside in
    record {
      count = length-set start place v ∙ fit.count;
      each = λ k within. ⊎_elim
          (λ same.
          subst (λ j. get_or (set start place v) j 0 < 2 ^ get_or (widths_of registers) j 0)
          (sym same)
          (subst (λ x. x < 2 ^ get_or (widths_of registers) place 0)
          (sym (get_or-set_same start place v 0 (omega (arith, fit.count))))
          (subst (λ w. v < 2 ^ w) (sym own) low)))
          (λ other. subst (λ x. x < 2 ^ get_or (widths_of registers) k 0)
          (sym (get_or-set_other start place k v 0 other)) (fit.each k within))
          (cases_eq k place);
    }

start_says : (form : StimForm) (right : List (List ℕ)) (line : List ℕ) (s : Says form right)
    → s.said.begun ≡ false → bytes_eq line form.header ≡ false
    → line_fault form right line ≡ None → Says form (right ++ line ∷ [])
start_says form right line s begun header good =
    let fault = early_fault_is form right line (is_short form right line good)
    (sym s.read.begun ∙ begun) header in
    let starts = right_start form (λ k. list_any (starts_at form.registers k) right) line
    (sym fault ∙ good) in
    let inside : starts.place < length form.registers =
    (position-Some (λ (r : Register). bytes_eq r.name (start_name line)) form.registers starts.place
    (record { name = []; width = 0 }) starts.at).0 in
    record {
      said = record s.said {
        given = set s.said.given starts.place true;
        start = set s.said.start starts.place (digits_value 16 (start_digits line));
        line = s.said.line + 1;
      };
      read = after_start form right [] line s.said starts.place s.read begun header starts.is
          starts.at inside s.fits.given;
      fits = record {
        given = length-set s.said.given starts.place true ∙ s.fits.given;
        start = set_fits form.registers s.said.start starts.place
            (digits_value 16 (start_digits line)) s.fits.start inside
            (value_fits (width_at form.registers starts.place) (start_digits line) starts.value);
        cycles = s.fits.cycles;
      };
    }

one_more : (form : StimForm) (right : List (List ℕ)) (line : List ℕ) → Says form right
    → line_fault form right line ≡ None → Says form (right ++ line ∷ [])
one_more form right line s good = ⊎_elim
    (λ begun. cycle_says form right line s begun good)
    (λ early. ⊎_elim
    (λ header. header_says form right line s early header)
    (λ other. start_says form right line s early other good)
    (cases_Bool (bytes_eq line form.header)))
    (cases_Bool s.said.begun)

-- ---- all right lines

all_say : (form : StimForm) (before lines : List (List ℕ)) → Says form before
    → Says form (read_after form before lines).right
all_say form before [] s = s
all_say form before (line ∷ lines) s =
    go (line_fault form before line)
    (λ good. all_say form (before ++ line ∷ []) lines (one_more form before line s good)) refl
  where
    go : (o : Option StimKind)
        → (line_fault form before line ≡ None
        → Says form (read_after form (before ++ line ∷ []) lines).right)
        → line_fault form before line ≡ o
        → Says form (read_next o before (read_after form (before ++ line ∷ []) lines)).right
    go None rest good = rest good
    go (Some kind) rest bad = s

-- the starting values and the cycles that right lines give
pub record FitForm (form : StimForm) (right : List (List ℕ)) : Type 0 where
  pub start : FitWidths (widths_of form.registers) (start_of form right)
  pub cycles : All (FitWidths form.inputs) (cycles_of right)

fit_form : (form : StimForm) (right : List (List ℕ)) → Says form right → FitForm form right
fit_form form right s = record {
  start = subst (FitWidths (widths_of form.registers)) s.read.start s.fits.start;
  cycles = subst (All (FitWidths form.inputs)) s.read.cycles s.fits.cycles;
}

pub lines_fit : (form : StimForm) → is_start form.header ≡ false → (lines : List (List ℕ))
    → FitForm form (read_after form [] lines).right
lines_fit form plain lines =
    fit_form form (read_after form [] lines).right (all_say form [] lines (none_says form plain))

pub front_fits : (form : StimForm) → is_start form.header ≡ false → (bytes : List ℕ)
    → FitForm form (read_front form bytes).right
front_fits form plain bytes =
    lines_fit form plain (lines_if (λ last. nat_lt 1048576 (length last)) (parts bytes))

pub whole_fits : (form : StimForm) → is_start form.header ≡ false → (bytes : List ℕ)
    → FitForm form (read_whole form bytes).right
whole_fits form plain bytes =
    let lines = lines_if (λ last. nat_lt 0 (length last)) (parts bytes) in
    subst (FitForm form) (sym (ended_right form (read_after form [] lines)))
    (lines_fit form plain lines)
