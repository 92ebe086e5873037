-- How many lines and cycles a text has, and when a stimulus has begun.
use Rattle.std.proofs.Common.{◌≡◌, ℕ, ◌+◌, ◌<◌, ◌≤◌, Bool, true, false, List, [], ◌∷◌, ◌++◌, length}
use Rattle.std.proofs.Common.{map, drop, refl, sym, ap, ◌∙◌, arith, Option, Some, None}
use Rattle.std.proofs.Common.{length-append, cond, ◌==◌, nat_lt, ◌&&◌, not}
use Rattle.std.specs.Prelude.{is_none}
use Rattle.std.specs.Str.Parse.{digits_value}
use Rattle.std.specs.List.{prefix_len}
use Rattle.std.proofs.lemmas.List.{length-map, length-drop}
use Rattle.std.proofs.lemmas.List.Folds.{length-prefix_len}
use Rattle.std.proofs.lemmas.List.Splits.{length-slice_split}
use Rattle.std.proofs.lemmas.List.Sums.{count_by-le-length}
use Rattle.sv_texts.specs.declared.stimuli.StimKind.{StimKind}
use Rattle.sv_texts.specs.declared.stimuli.StimKind.TheVariants.{Header}
use Rattle.sv_trace.specs.Forms.{StimForm}
use Rattle.sv_trace.specs.Reading.{Said, HaveRead}
use Rattle.sv_trace.specs.Stimulus.{LinesRead, line_fault, read_next, read_after, parts, lines_if}
use Rattle.sv_trace.specs.Stimulus.{read_front, read_whole, ended, has_header, is_start}
use Rattle.sv_trace.specs.Stimulus.{start_lines, cycles_of, words}

-- ---- how many

after_count : (form : StimForm) (before lines : List (List ℕ))
    → length (read_after form before lines).right ≤ length before + length lines
after_count form before [] = omega arith
after_count form before (line ∷ lines) =
    go (line_fault form before line) (after_count form (before ++ line ∷ []) lines)
  where
    go : (o : Option StimKind)
        → length (read_after form (before ++ line ∷ []) lines).right
        ≤ length (before ++ line ∷ []) + length lines
        → length (read_next o before (read_after form (before ++ line ∷ []) lines)).right
        ≤ length before + length (line ∷ lines)
    go None few = omega (arith, few, length-append before (line ∷ []))
    go (Some kind) few = omega arith

lines_count : (test : List ℕ → Bool) (ps : List (List ℕ)) → length (lines_if test ps) ≤ length ps
lines_count test [] = omega arith
lines_count test (p ∷ []) = last (test p)
  where
    last : (b : Bool) → length (cond b (p ∷ []) []) ≤ length (p ∷ [])
    last true = omega arith
    last false = omega arith
lines_count test (p ∷ q ∷ ps) = let more = lines_count test (q ∷ ps) in omega (arith, more)

parts_count : (bytes : List ℕ) → length (parts bytes) ≤ length bytes + 1
parts_count bytes =
    let test = λ (b : ℕ). b == 10 in
    omega (arith, length-slice_split test bytes, count_by-le-length test bytes)

-- no more lines are right than a text has bytes, and one
pub front_count : (form : StimForm) (bytes : List ℕ)
    → length (read_front form bytes).right ≤ length bytes + 1
front_count form bytes =
    let test = λ (last : List ℕ). nat_lt 1048576 (length last) in
    omega (
      arith,
      after_count form [] (lines_if test (parts bytes)),
      lines_count test (parts bytes),
      parts_count bytes,
    )

ended_right : (form : StimForm) (read : LinesRead) → (ended form read).right ≡ read.right
ended_right form read = go (is_none read.wrong && not (has_header form read.right))
  where
    go : (b : Bool) → (cond b (let r : LinesRead = record {
      right = read.right;
      wrong = Some Header;
    } in r) read).right ≡ read.right
    go true = refl
    go false = refl

pub whole_count : (form : StimForm) (bytes : List ℕ)
    → length (read_whole form bytes).right ≤ length bytes + 1
whole_count form bytes =
    let test = λ (last : List ℕ). nat_lt 0 (length last) in
    let lines = lines_if test (parts bytes) in
    omega (
      arith,
      ap length (ended_right form (read_after form [] lines)),
      after_count form [] lines,
      lines_count test (parts bytes),
      parts_count bytes,
    )

-- no more cycles than lines
pub cycles_count : (right : List (List ℕ)) → length (cycles_of right) ≤ length right
cycles_count right =
    let n = length (start_lines right) + 1 in
    omega (
      arith,
      length-map (drop n right) (λ (line : List ℕ). map (digits_value 16) (words line)),
      length-drop n right,
    )

-- ---- before the header

-- where every line is a start there is no cycle
pub no_cycles : (right : List (List ℕ)) → prefix_len is_start right ≡ length right
    → length (cycles_of right) ≡ 0
no_cycles right all =
    let n = length (start_lines right) + 1 in
    omega (
      arith,
      length-map (drop n right) (λ (line : List ℕ). map (digits_value 16) (words line)),
      length-drop n right,
      length-prefix_len is_start right,
    )

-- a reader that was not begun has no cycles
pub begun_if : (form : StimForm) (right taken : List (List ℕ)) (said : Said)
    → HaveRead form right taken said → 0 < length said.cycles → said.begun ≡ true
begun_if form right taken said read some = go said.begun refl
  where
    go : (b : Bool) → said.begun ≡ b → said.begun ≡ true
    go true is = is
    go false is =
        let starting = read.starting (sym read.begun ∙ is) in
        absurd (omega (
          arith,
          no_cycles right starting.starts,
          ap length read.cycles,
          length-append taken said.cycles,
        ))
