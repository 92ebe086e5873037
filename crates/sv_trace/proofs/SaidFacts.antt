-- What one more right line changes in what lines say.
use Rattle.std.proofs.Common.{◌≡◌, ℕ, ◌+◌, ◌<◌, ◌≤◌, Bool, true, false, cond, ◌&&◌}
use Rattle.std.proofs.Common.{◌||◌, ◌==◌, List, [], ◌∷◌, ◌++◌, length, map, take, drop, get_or, set}
use Rattle.std.proofs.Common.{refl, sym, ap, ◌∙◌, arith, subst, Option, Some, None, append_assoc}
use Rattle.std.proofs.Common.{append-nil}
use Rattle.std.proofs.Common.{⊎_elim, nat_lt, replicate, get_or-set_same, get_or-set_other, ◌⊎◌}
use Rattle.std.specs.Prelude.{All, Result, Ok, Err, OnOk, OnErr, IfErr}
use Rattle.std.specs.List.{list_any, prefix_len, fold}
use Rattle.std.specs.Option.{option_map_or}
use Rattle.std.specs.Str.{bytes_eq}
use Rattle.std.specs.Str.Parse.{digits_value}
use Rattle.std.proofs.Math.Bool.{or-false, or-true}
use Rattle.std.proofs.Math.ListN.{drop_of_length-le}
use Rattle.std.proofs.lemmas.List.{drop-append-le}
use Rattle.std.proofs.Math.Seq.{take-append_seam, drop-append-add, take-length}
use Rattle.std.proofs.lemmas.Bool.{eq-eqb, ne_eqb, le-ltb, cases_eq, false≢true}
use Rattle.std.proofs.lemmas.List.{take-append-le, length-append, map-append}
use Rattle.std.proofs.lemmas.List.Folds.{prefix_len-append, list_any-append, length-prefix_len}
use Rattle.std.proofs.lemmas.List.Sums.{fold-append}
use Rattle.std.proofs.lemmas.List.Elements.{All-append, All-cons}
use Rattle.std.proofs.lemmas.List.Quantifiers.{position-Some}
use Rattle.std.proofs.lemmas.Slice.Eq.{bytes_eq-Decides}
use Rattle.sv_texts.specs.declared.stimuli.StimKind.{StimKind}
use Rattle.sv_texts.specs.declared.stimuli.StimKind.TheVariants.{TooLong, Header, Value}
use Rattle.sv_trace.specs.declared.forms.Register.{Register}
use Rattle.sv_trace.specs.Forms.{StimForm}
use Rattle.sv_trace.specs.declared.faults.StimFault.{StimFault}
use Rattle.sv_trace.specs.Reading.{Said, HaveRead, KeepsCycles}
use Rattle.sv_trace.specs.Steps.{cycle_fault, early_fault, IsPut, IsFaultAt, LineRead}
use Rattle.sv_trace.specs.Stimulus.{line_fault, has_header, is_start, starts_at, start_name}
use Rattle.sv_trace.specs.Stimulus.{start_digits, start_fault, place_of, start_lines, started}
use Rattle.sv_trace.specs.Stimulus.{start_of, cycles_of, words, are_values}

-- ---- the fault of a line, test by test

at_cycle : (long begun right header start : Bool) (other : Option StimKind) → long ≡ false
    → begun ≡ true
    → cond long (Some TooLong)
    (cond begun (cond right None (Some Value))
    (cond header None (cond start other (Some Header))))
    ≡ cond right None (Some Value)
at_cycle true begun right header start other l b = cc
at_cycle false true right header start other l b = refl
at_cycle false false right header start other l b = cc

at_header : (long begun right header start : Bool) (other : Option StimKind) → long ≡ false
    → begun ≡ false → header ≡ true
    → cond long (Some TooLong)
    (cond begun (cond right None (Some Value))
    (cond header None (cond start other (Some Header))))
    ≡ None
at_header true begun right header start other l b h = cc
at_header false true right header start other l b h = cc
at_header false false right true start other l b h = refl
at_header false false right false start other l b h = cc

at_start : (long begun right header start : Bool) (other : Option StimKind) → long ≡ false
    → begun ≡ false → header ≡ false
    → cond long (Some TooLong)
    (cond begun (cond right None (Some Value))
    (cond header None (cond start other (Some Header))))
    ≡ cond start other (Some Header)
at_start true begun right header start other l b h = cc
at_start false true right header start other l b h = cc
at_start false false right true start other l b h = cc
at_start false false right false start other l b h = refl

abbrev flag_of : StimForm → List (List ℕ) → ℕ → Bool
flag_of form right k = list_any (starts_at form.registers k) right

abbrev other_fault : StimForm → List (List ℕ) → List ℕ → Option StimKind
other_fault form right line =
    start_fault form.registers (flag_of form right) (start_digits line)
    (place_of form.registers (start_name line))

pub cycle_fault_is : (form : StimForm) (right : List (List ℕ)) (line : List ℕ)
    → length line ≤ 1048576 → has_header form right ≡ true
    → line_fault form right line ≡ cycle_fault form line
cycle_fault_is form right line short begun =
    at_cycle (nat_lt 1048576 (length line)) (has_header form right)
    (are_values form.inputs (words line)) (bytes_eq line form.header) (is_start line)
    (other_fault form right line) (le-ltb 1048576 (length line) short) begun

pub header_is_right : (form : StimForm) (right : List (List ℕ)) (line : List ℕ)
    → length line ≤ 1048576 → has_header form right ≡ false → bytes_eq line form.header ≡ true
    → line_fault form right line ≡ None
header_is_right form right line short begun header =
    at_header (nat_lt 1048576 (length line)) (has_header form right)
    (are_values form.inputs (words line)) (bytes_eq line form.header) (is_start line)
    (other_fault form right line) (le-ltb 1048576 (length line) short) begun header

pub early_fault_is : (form : StimForm) (right : List (List ℕ)) (line : List ℕ)
    → length line ≤ 1048576 → has_header form right ≡ false → bytes_eq line form.header ≡ false
    → line_fault form right line ≡ early_fault form (flag_of form right) line
early_fault_is form right line short begun header =
    at_start (nat_lt 1048576 (length line)) (has_header form right)
    (are_values form.inputs (words line)) (bytes_eq line form.header) (is_start line)
    (other_fault form right line) (le-ltb 1048576 (length line) short) begun header

-- flags that agree at the registers give the same fault
pub same_flags : (form : StimForm) (line : List ℕ) (first second : ℕ → Bool)
    → ((k : ℕ) → k < length form.registers → first k ≡ second k)
    → ((k : ℕ) → place_of form.registers (start_name line) ≡ Some k → k < length form.registers)
    → early_fault form first line ≡ early_fault form second line
same_flags form line first second same inside =
    ap (λ f. cond (is_start line) f (Some Header))
    (at (place_of form.registers (start_name line)) inside)
  where
    at : (o : Option ℕ) → ((k : ℕ) → o ≡ Some k → k < length form.registers)
        → start_fault form.registers first (start_digits line) o
        ≡ start_fault form.registers second (start_digits line) o
    at None within = refl
    at (Some k) within =
        ap (λ b. start_fault form.registers (λ j. b) (start_digits line) (Some k))
        (same k (within k refl))

-- ---- the lines of starts

pub one_more_start : (right : List (List ℕ)) (line : List ℕ)
    → prefix_len is_start right ≡ length right → is_start line ≡ true
    → prefix_len is_start (right ++ line ∷ []) ≡ length (right ++ line ∷ [])
one_more_start right line all is =
    prefix_len-append is_start right (line ∷ [])
    ∙ ap (λ b. cond b (length right + prefix_len is_start (line ∷ [])) (prefix_len is_start right))
    (eq-eqb (prefix_len is_start right) (length right) all)
    ∙ ap (λ b. length right + cond b (1 + 0) 0) is
    ∙ omega (arith, length-append right (line ∷ []))

pub no_more_start : (right : List (List ℕ)) (line : List ℕ)
    → prefix_len is_start right ≡ length right → is_start line ≡ false
    → prefix_len is_start (right ++ line ∷ []) ≡ length right
no_more_start right line all is =
    prefix_len-append is_start right (line ∷ [])
    ∙ ap (λ b. cond b (length right + prefix_len is_start (line ∷ [])) (prefix_len is_start right))
    (eq-eqb (prefix_len is_start right) (length right) all)
    ∙ ap (λ b. length right + cond b (1 + 0) 0) is
    ∙ omega arith

pub same_starts : (right : List (List ℕ)) (line : List ℕ)
    → prefix_len is_start right < length right
    → prefix_len is_start (right ++ line ∷ []) ≡ prefix_len is_start right
same_starts right line fewer =
    prefix_len-append is_start right (line ∷ [])
    ∙ ap (λ b. cond b (length right + prefix_len is_start (line ∷ [])) (prefix_len is_start right))
    (ne_eqb (prefix_len is_start right) (length right) (λ e. absurd (omega arith)))

pub all_starts : (right : List (List ℕ)) → prefix_len is_start right ≡ length right
    → start_lines right ≡ right
all_starts right all = ap (λ n. take n right) all ∙ take-length right

header_starts : (right : List (List ℕ)) (line : List ℕ)
    → prefix_len is_start right ≡ length right → is_start line ≡ false
    → start_lines (right ++ line ∷ []) ≡ right
header_starts right line all is =
    ap (λ n. take n (right ++ line ∷ [])) (no_more_start right line all is)
    ∙ take-append_seam right (line ∷ [])

cycle_starts : (right : List (List ℕ)) (line : List ℕ)
    → prefix_len is_start right < length right
    → start_lines (right ++ line ∷ []) ≡ start_lines right
cycle_starts right line fewer =
    ap (λ n. take n (right ++ line ∷ [])) (same_starts right line fewer)
    ∙ take-append-le (prefix_len is_start right) right (line ∷ []) (omega arith)

-- ---- starting values

start_more : (form : StimForm) (right : List (List ℕ)) (line : List ℕ)
    → prefix_len is_start right ≡ length right → is_start line ≡ true
    → start_of form (right ++ line ∷ []) ≡ started form (start_of form right) line
start_more form right line all is =
    ap (fold (started form) (replicate (length form.registers) 0))
    (all_starts (right ++ line ∷ []) (one_more_start right line all is))
    ∙ fold-append (started form) (replicate (length form.registers) 0) right (line ∷ [])
    ∙ ap (λ ls. started form (fold (started form) (replicate (length form.registers) 0) ls) line)
    (sym (all_starts right all))

start_header : (form : StimForm) (right : List (List ℕ)) (line : List ℕ)
    → prefix_len is_start right ≡ length right → is_start line ≡ false
    → start_of form (right ++ line ∷ []) ≡ start_of form right
start_header form right line all is =
    ap (fold (started form) (replicate (length form.registers) 0))
    (header_starts right line all is ∙ sym (all_starts right all))

start_cycle : (form : StimForm) (right : List (List ℕ)) (line : List ℕ)
    → prefix_len is_start right < length right
    → start_of form (right ++ line ∷ []) ≡ start_of form right
start_cycle form right line fewer =
    ap (fold (started form) (replicate (length form.registers) 0)) (cycle_starts right line fewer)

-- ---- cycles

abbrev cycle_of : List ℕ → List ℕ
cycle_of line = map (digits_value 16) (words line)

no_cycles : (right : List (List ℕ)) → prefix_len is_start right ≡ length right
    → cycles_of right ≡ []
no_cycles right all =
    let count : length (start_lines right) ≡ length right = ap length (all_starts right all) in
    ap (map cycle_of) (drop_of_length-le right (omega arith))

no_cycles_yet : (right : List (List ℕ)) (line : List ℕ)
    → prefix_len is_start right ≡ length right → is_start line ≡ false
    → cycles_of (right ++ line ∷ []) ≡ []
no_cycles_yet right line all is =
    let count : length (start_lines (right ++ line ∷ [])) ≡ length right =
    ap length (header_starts right line all is) in
    ap (λ n. map cycle_of (drop (n + 1) (right ++ line ∷ []))) count
    ∙ ap (map cycle_of) (drop-append-add right (line ∷ []) 1)

cycles_more : (right : List (List ℕ)) (line : List ℕ)
    → prefix_len is_start right < length right
    → cycles_of (right ++ line ∷ []) ≡ cycles_of right ++ cycle_of line ∷ []
cycles_more right line fewer =
    let count : length (start_lines right) ≡ prefix_len is_start right =
    length-prefix_len is_start right in
    ap (λ ls. map cycle_of (drop (length ls + 1) (right ++ line ∷ [])))
    (cycle_starts right line fewer)
    ∙ ap (map cycle_of) (dropped (length (start_lines right) + 1) right (omega arith))
    ∙ map-append cycle_of (drop (length (start_lines right) + 1) right) (line ∷ [])
  where
    dropped : (n : ℕ) (ls : List (List ℕ)) → n ≤ length ls
        → drop n (ls ++ line ∷ []) ≡ drop n ls ++ line ∷ []
    dropped n ls within = drop-append-le n ls (line ∷ []) within

-- ---- headers

headed : (form : StimForm) (right : List (List ℕ)) (line : List ℕ) (before now : Bool)
    → has_header form right ≡ before → bytes_eq line form.header ≡ now
    → has_header form (right ++ line ∷ []) ≡ (before || (now || false))
headed form right line before now b n =
    list_any-append (λ l. bytes_eq l form.header) right (line ∷ [])
    ∙ ap (λ t. t || (bytes_eq line form.header || false)) b
    ∙ ap (λ t. before || (t || false)) n

-- ---- what lines say, after one more

pub after_header : (form : StimForm) (right taken : List (List ℕ)) (line : List ℕ) (said : Said)
    → HaveRead form right taken said → said.begun ≡ false → bytes_eq line form.header ≡ true
    → line ≡ form.header
    → HaveRead form (right ++ line ∷ []) taken (record said { begun = true; line = said.line + 1 })
after_header form right taken line said read begun header is =
    let none : has_header form right ≡ false = sym read.begun ∙ begun in
    let starting = read.starting none in
    let plain : is_start line ≡ false = ap is_start is ∙ read.header in
    let has : has_header form (right ++ line ∷ []) ≡ true =
    headed form right line false true none header in
    let count = no_more_start right line starting.starts plain in
    record {
      header = read.header;
      begun = sym has;
      starting = λ e. absurd (false≢true (sym e ∙ has));
      cycling = λ e. omega (arith, count, length-append right (line ∷ []));
      start = read.start ∙ sym (start_header form right line starting.starts plain);
      cycles = read.cycles ∙ (no_cycles right starting.starts
          ∙ sym (no_cycles_yet right line starting.starts plain));
      line = omega (arith, read.line, length-append right (line ∷ []));
    }

pub after_cycle : (form : StimForm) (right taken : List (List ℕ)) (line : List ℕ) (said : Said)
    → HaveRead form right taken said → said.begun ≡ true
    → HaveRead form (right ++ line ∷ []) taken (record said {
      cycles = said.cycles ++ map (digits_value 16) (words line) ∷ [];
      line = said.line + 1;
    })
after_cycle form right taken line said read begun =
    let had : has_header form right ≡ true = sym read.begun ∙ begun in
    let fewer = read.cycling had in
    let has : has_header form (right ++ line ∷ []) ≡ true =
    headed form right line true (bytes_eq line form.header) had refl in
    let count = same_starts right line fewer in
    record {
      header = read.header;
      begun = begun ∙ sym has;
      starting = λ e. absurd (false≢true (sym e ∙ has));
      cycling = λ e. omega (arith, count, fewer, length-append right (line ∷ []));
      start = read.start ∙ sym (start_cycle form right line fewer);
      cycles =
          sym (append_assoc taken said.cycles (map (digits_value 16) (words line) ∷ []))
          ∙ ap (λ cs. cs ++ map (digits_value 16) (words line) ∷ []) read.cycles
          ∙ sym (cycles_more right line fewer);
      line = omega (arith, read.line, length-append right (line ∷ []));
    }

-- a register's flag after its line
flag_more : (form : StimForm) (right : List (List ℕ)) (line : List ℕ) (given : List Bool)
    (place k : ℕ) → is_start line ≡ true → place_of form.registers (start_name line) ≡ Some place
    → place < length given → get_or given k false ≡ flag_of form right k
    → get_or (set given place true) k false ≡ flag_of form (right ++ line ∷ []) k
flag_more form right line given place k is at inside before =
    by_place (cases_eq k place)
  where
    own : starts_at form.registers k line ≡ (place == k)
    own = ap (λ t. t && option_map_or (λ j. j == k) (place_of form.registers
        (start_name line)) false) is
        ∙ ap (λ o. option_map_or (λ j. j == k) o false) at

    whole : flag_of form (right ++ line ∷ []) k ≡ (flag_of form right k || (place == k || false))
    whole = list_any-append (starts_at form.registers k) right (line ∷ [])
        ∙ ap (λ t. flag_of form right k || (t || false)) own

    by_place : (k ≡ place) ⊎ (k ≡ place → ⊥)
        → get_or (set given place true) k false ≡ flag_of form (right ++ line ∷ []) k
    by_place h = ⊎_elim
        (λ same. ap (λ j. get_or (set given place true) j false) same
        ∙ get_or-set_same given place true false inside
        ∙ sym (whole ∙ ap (λ t. flag_of form right k || (t || false)) (eq-eqb place k (sym same))
        ∙ or-true (flag_of form right k)))
        (λ other. get_or-set_other given place k true false other
        ∙ before
        ∙ sym (whole ∙ ap (λ t. flag_of form right k || (t || false))
        (ne_eqb place k (λ e. other (sym e))) ∙ or-false (flag_of form right k)))
        h

pub after_start : (form : StimForm) (right taken : List (List ℕ)) (line : List ℕ) (said : Said)
    (place : ℕ) → HaveRead form right taken said → said.begun ≡ false
    → bytes_eq line form.header ≡ false → is_start line ≡ true
    → place_of form.registers (start_name line) ≡ Some place → place < length form.registers
    → length said.given ≡ length form.registers
    → HaveRead form (right ++ line ∷ []) taken (record said {
      given = set said.given place true;
      start = set said.start place (digits_value 16 (start_digits line));
      line = said.line + 1;
    })
after_start form right taken line said place read begun header is at inside count =
    let none : has_header form right ≡ false = sym read.begun ∙ begun in
    let starting = read.starting none in
    let has : has_header form (right ++ line ∷ []) ≡ false =
    headed form right line false false none header in
    record {
      header = read.header;
      begun = begun ∙ sym has;
      starting = λ e. record {
        starts = one_more_start right line starting.starts is;
        flags = λ k within. flag_more form right line said.given place k is at (omega arith)
            (starting.flags k within);
      };
      cycling = λ e. absurd (false≢true (sym has ∙ e));
      start =
          ap (λ values. set values place (digits_value 16 (start_digits line))) read.start
          ∙ ap (λ o. option_map_or (λ p. set (start_of form right) p
          (digits_value 16 (start_digits line))) o (start_of form right)) (sym at)
          ∙ sym (start_more form right line starting.starts is);
      cycles = read.cycles ∙ (no_cycles right starting.starts
          ∙ sym (no_cycles (right ++ line ∷ []) (one_more_start right line starting.starts is)));
      line = omega (arith, read.line, length-append right (line ∷ []));
    }

-- ---- what was read of a line, with any answer

fault_at : (number other : ℕ) (wrong same : Option StimKind) (fault : StimFault)
    → IsFaultAt number wrong fault → number ≡ other → wrong ≡ same → IsFaultAt other same fault
fault_at number other wrong same fault is n w =
    subst (λ m. IsFaultAt m same fault) n (subst (λ o. IsFaultAt number o fault) w is)

pub cycle_read : (form : StimForm) (right taken : List (List ℕ)) (line : List ℕ) (old new : Said)
    (r : Result (Unit {0}) StimFault) → HaveRead form right taken old → old.begun ≡ true
    → length line ≤ 1048576
    → OnOk r (cycle_fault form line ≡ None)
    → OnOk r (new ≡ record old {
      cycles = old.cycles ++ map (digits_value 16) (words line) ∷ [];
      line = old.line + 1;
    })
    → IfErr r (IsFaultAt old.line (cycle_fault form line)) → OnErr r (new ≡ old)
    → LineRead form right taken line r new
cycle_read form right taken line old new (Ok done) read begun short good pushed wrong same = (
  cycle_fault_is form right line short (sym read.begun ∙ begun) ∙ good,
  subst (λ s. HaveRead form (right ++ line ∷ []) taken s) (sym pushed)
      (after_cycle form right taken line old read begun),
)
cycle_read form right taken line old new (Err fault) read begun short good pushed wrong same = (
  fault_at old.line (length right + 1) (cycle_fault form line) (line_fault form right line) fault
      wrong read.line (sym (cycle_fault_is form right line short (sym read.begun ∙ begun))),
  subst (λ s. HaveRead form right taken s) (sym same) read,
)

pub header_read : (form : StimForm) (right taken : List (List ℕ)) (line : List ℕ) (old : Said)
    → HaveRead form right taken old → old.begun ≡ false → length line ≤ 1048576
    → bytes_eq line form.header ≡ true
    → LineRead form right taken line (Ok tt) (record old { begun = true; line = old.line + 1 })
header_read form right taken line old read begun short header = (
  header_is_right form right line short (sym read.begun ∙ begun) header,
  after_header form right taken line old read begun header
      ((bytes_eq-Decides line form.header).0 header),
)

own_fault : (form : StimForm) (right taken : List (List ℕ)) (line : List ℕ) (old : Said)
    → HaveRead form right taken old → old.begun ≡ false → length line ≤ 1048576
    → bytes_eq line form.header ≡ false
    → line_fault form right line ≡ early_fault form (λ k. get_or old.given k false) line
own_fault form right taken line old read begun short header =
    let none = sym read.begun ∙ begun in
    early_fault_is form right line short none header
    ∙ same_flags form line (flag_of form right) (λ k. get_or old.given k false)
    (λ k within. sym ((read.starting none).flags k within))
    (λ k at. (position-Some (λ (r : Register). bytes_eq r.name (start_name line)) form.registers k
    (record { name = []; width = 0 }) at).0)

is_start_of : (form : StimForm) (given : ℕ → Bool) (line : List ℕ)
    → early_fault form given line ≡ None → is_start line ≡ true
is_start_of form given line e =
    by_test (is_start line)
    (start_fault form.registers given (start_digits line) (place_of form.registers
    (start_name line)))
    e
  where
    by_test : (b : Bool) (o : Option StimKind) → cond b o (Some Header) ≡ None → b ≡ true
    by_test true o e = refl
    by_test false o e = cc

pub start_read : (form : StimForm) (right taken : List (List ℕ)) (line : List ℕ) (old new : Said)
    (r : Result (Unit {0}) StimFault) → HaveRead form right taken old → old.begun ≡ false
    → length line ≤ 1048576 → bytes_eq line form.header ≡ false
    → length old.given ≡ length form.registers
    → OnOk r (early_fault form (λ k. get_or old.given k false) line ≡ None)
    → OnOk r (IsPut form.registers line old new)
    → IfErr r (IsFaultAt old.line (early_fault form (λ k. get_or old.given k false) line))
    → OnErr r (new ≡ old)
    → LineRead form right taken line r new
start_read form right taken line old new (Ok done) read begun short header count good put wrong
    same = (
      own_fault form right taken line old read begun short header ∙ good,
      subst (λ s. HaveRead form (right ++ line ∷ []) taken s) (sym put.said)
          (after_start form right taken line old put.place read begun header
          (is_start_of form (λ k. get_or old.given k false) line good) put.is put.inside count),
    )
start_read form right taken line old new (Err fault) read begun short header count good put wrong
    same = (
      fault_at old.line (length right + 1) (early_fault form (λ k. get_or old.given k false) line)
          (line_fault form right line) fault wrong read.line
          (sym (own_fault form right taken line old read begun short header)),
      subst (λ s. HaveRead form right taken s) (sym same) read,
    )

-- one more fitting list
pub all_pushed : {X : Type 0} (f : X → List ℕ) (P : List ℕ → Type 0) (xs ys : List X) (x : X)
    → All P (map f xs) → P (f x) → ys ≡ xs ++ x ∷ [] → All P (map f ys)
all_pushed f P xs ys x all one e =
    subst (All P) (sym (ap (map f) e ∙ map-append f xs (x ∷ [])))
    (All-append P (map f xs) (f x ∷ []) all
    (All-cons P (f x) [] one (λ k d h. absurd (omega arith))))

-- ---- cycles that were not taken

pub keeps_all : (said : Said) → KeepsCycles said said
keeps_all said = ([], sym (append-nil said.cycles))

pub keeps_more : (old mid new : Said) → KeepsCycles old mid → KeepsCycles mid new
    → KeepsCycles old new
keeps_more old mid new first second = (
  first.0 ++ second.0,
  second.1 ∙ ap (λ cycles. cycles ++ second.0) first.1
      ∙ append_assoc old.cycles first.0 second.0,
)

pub cycle_keeps : (r : Result (Unit {0}) StimFault) (old new : Said) (values : List ℕ) (line : ℕ)
    → OnOk r (new ≡ record old { cycles = old.cycles ++ values ∷ []; line = line })
    → OnErr r (new ≡ old) → KeepsCycles old new
cycle_keeps (Ok done) old new values line pushed same =
    (values ∷ [], ap (λ (said : Said). said.cycles) pushed)
cycle_keeps (Err fault) old new values line pushed same =
    subst (KeepsCycles old) (sym same) (keeps_all old)

pub start_keeps : (registers : List Register) (line : List ℕ) (r : Result (Unit {0}) StimFault)
    (old new : Said) → OnOk r (IsPut registers line old new) → OnErr r (new ≡ old)
    → KeepsCycles old new
start_keeps registers line (Ok done) old new put same =
    subst (λ cycles. (more : List (List ℕ)) × (cycles ≡ old.cycles ++ more))
    (sym (ap (λ (said : Said). said.cycles) put.said)) (keeps_all old)
start_keeps registers line (Err fault) old new put same =
    subst (KeepsCycles old) (sym same) (keeps_all old)
