-- Written-out arguments, and what they ask for.
use Rattle.std.specs.Prelude.{◌≡◌, ◌==◌, ◌∷◌, ℕ, Bool, List, [], None, Some, codes, false, true, if◌then◌else◌}
use Rattle.clap.specs.Words.{Text, fault_of}
use Rattle.clap.specs.declared.error.kind.ErrorKind.TheVariants.{DisplayHelp, InvalidSubcommand}
use Rattle.rds_cli.specs.CommandLine.{AreRefused, Requested, default_dwell, whole_app}
use Rattle.rds_cli.specs.declared.request.Task.TheVariants.{Audit, Decode, Encode, Lose, Simulate, Slots, Witness}

abbrev pub in_front : ℕ → List Text → List Text
in_front c [] = (c ∷ []) ∷ []
in_front c (word ∷ rest) = (c ∷ word) ∷ rest

-- a line, split at its spaces
abbrev pub typed : List ℕ → List Text
typed [] = [] ∷ []
typed (c ∷ rest) = if c == 32 then [] ∷ typed rest else in_front c (typed rest)

-- the arguments are refused, so they are not taken
abbrev pub AreNotTaken : List Text → Type 0
AreNotTaken words = AreRefused words

-- the arguments are answered by help or by the refusal of the command that they name, so they are not taken
abbrev pub CallForHelp : List Text → Type 0
CallForHelp words = fault_of whole_app words ≡ DisplayHelp ∷ InvalidSubcommand ∷ []

abbrev pub decoding : Text → ℕ → Requested
decoding pi dwell = record { task = Decode None false 0; pi = pi; rtplus = 11; lose = []; dwell = dwell; file = None }

-- the same of what was heard twice within a window
abbrev pub confirming : ℕ → ℕ → Requested
confirming dwell window =
    record {
      task = Decode (Some window) false 0;
      pi = codes "C201";
      rtplus = 11;
      lose = [];
      dwell = dwell;
      file = None;
    }

-- the same with reasons, without a window
abbrev pub decoding_why : ℕ → Requested
decoding_why dwell =
    record { task = Decode None true 0; pi = codes "C201"; rtplus = 11; lose = []; dwell = dwell; file = None }

-- the same for a display that keeps a text and a name
abbrev pub decoding_kept : ℕ → Requested
decoding_kept keep =
    record {
      task = Decode None false keep;
      pi = codes "C201";
      rtplus = 11;
      lose = [];
      dwell = default_dwell;
      file = None;
    }

abbrev pub encoding : ℕ → ℕ → Requested
encoding dwell pty =
    record {
      task = Encode (record { pty = pty; tp = false }) 0;
      pi = codes "C201";
      rtplus = 11;
      lose = [];
      dwell = dwell;
      file = None;
    }

abbrev pub simulating : ℕ → ℕ → Bool → ℕ → Requested
simulating dwell pty tp late = record {
  task = Simulate (record { pty = pty; tp = tp }) late None false false 0;
  pi = codes "C201";
  rtplus = 11;
  lose = [];
  dwell = dwell;
  file = None;
}

-- the same with a window, without these options
abbrev pub simulating_confirmed : ℕ → ℕ → Requested
simulating_confirmed dwell window = record {
  task = Simulate (record { pty = 0; tp = false }) 0 (Some window) false false 0;
  pi = codes "C201";
  rtplus = 11;
  lose = [];
  dwell = dwell;
  file = None;
}

-- the same for displays that keep a text and a name, without these options
abbrev pub simulating_kept : ℕ → Requested
simulating_kept keep = record {
  task = Simulate (record { pty = 0; tp = false }) 0 None false false keep;
  pi = codes "C201";
  rtplus = 11;
  lose = [];
  dwell = default_dwell;
  file = None;
}

-- the simulation of radios that follow the flag bit alone, with reasons or without
abbrev pub simulating_flag_alone : ℕ → Bool → Requested
simulating_flag_alone dwell why = record {
  task = Simulate (record { pty = 0; tp = false }) 0 None true why 0;
  pi = codes "C201";
  rtplus = 11;
  lose = [];
  dwell = dwell;
  file = None;
}

abbrev pub witnessing : ℕ → Requested
witnessing dwell = record { task = Witness; pi = codes "C201"; rtplus = 11; lose = []; dwell = dwell; file = None }

-- the mixes of a receiver that loses these slots; with the flag it follows the flag bit alone
abbrev pub losing : Text → ℕ → Bool → Requested
losing lose dwell alone =
    record { task = Lose alone; pi = codes "C201"; rtplus = 11; lose = lose; dwell = dwell; file = None }

abbrev pub auditing : ℕ → ℕ → Requested
auditing dwell late =
    record {
      task = Audit late false false false;
      pi = codes "C201";
      rtplus = 11;
      lose = [];
      dwell = dwell;
      file = None;
    }

-- the audit of the log of a running station
abbrev pub auditing_running : ℕ → Requested
auditing_running dwell =
    record { task = Audit 0 true false false; pi = codes "C201"; rtplus = 11; lose = []; dwell = dwell; file = None }

-- the audit of texts with padding
abbrev pub auditing_padded : ℕ → Requested
auditing_padded dwell =
    record { task = Audit 0 false true false; pi = codes "C201"; rtplus = 11; lose = []; dwell = dwell; file = None }

-- the list of all faults of such a log
abbrev pub listing_running : ℕ → Requested
listing_running dwell = record {
  task = Audit 0 true false true;
  pi = codes "C201";
  rtplus = 11;
  lose = [];
  dwell = dwell;
  file = None;
}

abbrev pub filling : ℕ → ℕ → Requested
filling dwell grain =
    record { task = Slots grain false; pi = codes "0000"; rtplus = 11; lose = []; dwell = dwell; file = None }

-- the same of the lines of one programme
abbrev pub filling_one : Text → ℕ → ℕ → Requested
filling_one pi dwell grain =
    record { task = Slots grain true; pi = pi; rtplus = 11; lose = []; dwell = dwell; file = None }

-- the same with tags in groups nA
abbrev pub tagged_in : ℕ → Requested → Requested
tagged_in n asked = record asked { rtplus = n }

-- the log in this file
abbrev pub from_file : Text → Requested → Requested
from_file file asked = record asked { file = Some file }
