-- The texts about the program.
use Rattle.std.specs.Prelude.{ℕ, List, ◌++◌, codes}

-- what `secv --version` prints
abbrev pub version_text : List ℕ
version_text = codes "secv 0.1.0\n"

-- a line that says what a command is for, beside the commands
abbrev pub purpose : List ℕ → List ℕ
purpose text = codes "                                    " ++ text ++ codes "\n"

-- what `secv --help` prints: the commands with their words, and what each exit status means
abbrev pub help_text : List ℕ
help_text =
    codes "secv checks designs in SecVerilog: Verilog in which every signal has a security label.\n"
    ++ codes "\n"
    ++ codes "usage:\n"
    ++ codes "  secv check FILE [--proof NAME] [--budget NUMBER] [--json] [--top MODULE]\n"
    ++ purpose (codes "say whether the labels of a design keep every secret")
    ++ codes "  secv verify FILE PROOF [--top MODULE]\n"
    ++ purpose (codes "say whether a certificate proves a design to keep every secret")
    ++ codes "  secv list FILE [--top MODULE]     list the obligations of a design, a line each\n"
    ++ codes "  secv cnf FILE NUMBER [--top MODULE]\n"
    ++ purpose (codes "print the clauses of one obligation of a design, as DIMACS")
    ++ codes "  secv sim FILE [--level POINT] [--order NUMBER] [--top MODULE]\n"
    ++ purpose (codes "simulate a design on the stimulus of standard input")
    ++ codes "  secv compare FILE A B --level POINT [--top MODULE]\n"
    ++ purpose (codes "run a design on two stimuli and tell the first difference")
    ++ purpose (codes "that a level sees")
    ++ codes "  secv gen LANES [--check]          "
    ++ codes "print a sample design of 1 to 200 lanes, or check it\n"
    ++ codes "  secv COMMAND --help               say more of one command\n"
    ++ codes "  secv --help                       print this text\n"
    ++ codes "  secv --version                    print the version\n"
    ++ codes "\n"
    ++ codes "exit status: 0 accepted, printed or equal, 1 refused or two runs differ,\n"
    ++ codes "             2 wrong words, 3 unknown within the budget,\n"
    ++ codes "             4 unreadable file or input, 5 unwritable output or certificate,\n"
    ++ codes "             6 out of memory\n"
