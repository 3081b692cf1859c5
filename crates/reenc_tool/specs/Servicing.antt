-- What `serve` did.
use Rattle.std.specs.Prelude.{ℕ, ◌≡◌, ◌⊎◌, List, Option, Some, None}
use Rattle.command_line.specs.Commands.{Serving}
use Rattle.reenc_tool.specs.Asking.{BayView, Gives, disk_named, key_named}
use Rattle.reenc_tool.specs.Encrypted.{HasNoVolume, HasOpenedVolume}
use Rattle.reenc_tool.specs.Outcomes.{Outcome, ended_with}
use Rattle.reenc_tool.specs.Plain.{ServesPlain}
use Rattle.reenc_tool.specs.TakenUp.{HasNoConversion, HasTakenUp}

-- What came of the disk under the passphrase: where nothing is being converted by its header its volume
-- was opened, or wasn't; and where a conversion is under way, that was taken up, or wasn't.
abbrev pub ServesUnder : {B D L : Type 0} → BayView B D L → Serving → List ℕ → D → B → B
    → Outcome D L → Type 0
ServesUnder bay serve pass disk between new outcome =
    HasNoVolume bay.device pass disk between new outcome
    ⊎ HasOpenedVolume bay serve pass disk between new outcome
    ⊎ HasNoConversion bay.device pass disk between new outcome
    ⊎ HasTakenUp bay serve pass disk between new outcome

-- What came of the disk that the bay gave: it was served as it is, or a key file was asked for, and the
-- volume on it was served that the passphrase opens.
abbrev pub ServesBy : {B D L : Type 0} → BayView B D L → Serving → Option (List ℕ) → D → B → B
    → Outcome D L → Type 0
ServesBy bay serve None disk between new outcome = ServesPlain bay serve disk between new outcome
ServesBy bay serve (Some key_file) disk between new outcome =
    Gives bay (key_named bay key_file) between new
    (λ pass given. ServesUnder bay serve pass disk given new outcome)
    (λ cause. outcome ≡ ended_with cause (Some disk) None)

-- It asked for the disk that the words name, and has no report.
abbrev pub Serviced : {B D L : Type 0} → BayView B D L → Serving → B → B → Outcome D L
    → Option (List ℕ) → Type 0
Serviced bay serve old new outcome report =
    (report ≡ None)
    × Gives bay (disk_named bay serve.disk serve.atom) old new
    (λ disk between. ServesBy bay serve serve.key_file disk between new outcome)
    (λ cause. outcome ≡ ended_with cause None None)
