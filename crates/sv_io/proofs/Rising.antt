-- Counts over several calls.
use Rattle.std.proofs.Common.{ℕ, ◌≤◌, arith}
use Rattle.sv_io.specs.Count.{Rose}

-- a count that rose in the first of two calls rose in both together
pub rose_before : (old between new : ℕ) → old ≤ between → Rose old between → between ≤ new →
    Rose old new
rose_before old between new earlier rose later = grind arith

-- a count that rose in the second of two calls rose in both together
pub rose_after : (old between new : ℕ) → old ≤ between → Rose between new → Rose old new
rose_after old between new earlier rose = grind arith
