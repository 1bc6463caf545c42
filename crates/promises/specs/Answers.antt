-- When the answer is 0, and when it is another. Each call reports the answer of the first rule in the paper's order that is broken, and 0 if
-- none is. The rules stand here as plain propositions beside their answers, so a module that refuses without a reason, accepts in spite of
-- one, or tests in another order is not the one that is promised. An answer's number and values are those that `reported` gives it, the
-- definition by which the code's answers are read, and it is the paper's table. It supposes only that the image's numbers are octets.
-- Assumes nothing.
use Rattle.std.specs.Prelude.{ℕ, ◌+◌, ◌≤◌, ◌<◌, ◌⊎◌, ◌≡◌, List, length, Ok, Err}
use Rattle.octets.specs.Lists.{Octets}
use Rattle.judging.specs.Answers.{Reported, reported}
use Rattle.link.specs.Calls.{Left, loaded, secured, checked}
use Rattle.judging.specs.Said.{Said}
use Rattle.judging.specs.declared.answers.Refusal.{Refusal}
use Rattle.judging.specs.declared.answers.Refusal.TheVariants as answer
use Rattle.promises.specs.Forms.{form_said}
use Rattle.promises.specs.Images.{ImageRules, Agreeing, InWindow, Serves, shape_in, service_at, window_at, mask_at, key_octets_at, last_at}
use Rattle.promises.specs.Frames.{FrameRules, RightField, Opens, header_size, trailer_size, security_size, spi_on, number_on, text_on, mac_on}
use Rattle.promises.specs.Frames.{right_mac}

-- ---- the table: a refusal reports length 0 and 0 stores

abbrev pub reporting : ℕ → ℕ → ℕ → Reported
reporting number length stores = record { number = number; length = length; stores = stores }

pub record Table : Type 0 where
  pub zero : (length stores : ℕ) → reported (Ok (record { length = length; stores = stores })) ≡ reporting 0 length stores
  pub one : reported (Err answer.BadImage) ≡ reporting 1 0 0
  pub two : reported (Err answer.BadMarks) ≡ reporting 2 0 0
  pub three : reported (Err answer.BadFrame) ≡ reporting 3 0 0
  pub four : reported (Err answer.NoEntry) ≡ reporting 4 0 0
  pub five : reported (Err answer.TooShort) ≡ reporting 5 0 0
  pub six : reported (Err answer.NoRoom) ≡ reporting 6 0 0
  pub seven : reported (Err answer.WrongMac) ≡ reporting 7 0 0
  pub eight : reported (Err answer.OutsideWindow) ≡ reporting 8 0 0
  pub ten : reported (Err answer.NumbersSpent) ≡ reporting 10 0 0
  pub eleven : reported (Err answer.TooLong) ≡ reporting 11 0 0
  pub twelve : reported (Err answer.WrongCheckField) ≡ reporting 12 0 0
  pub thirteen : reported (Err answer.BadCommand) ≡ reporting 13 0 0
  pub fourteen : reported (Err answer.UnknownSpi) ≡ reporting 14 0 0
  pub fifteen : reported (Err answer.WrongState) ≡ reporting 15 0 0
  pub sixteen : reported (Err answer.BadValue) ≡ reporting 16 0 0
  pub seventeen : reported (Err answer.UnknownKey) ≡ reporting 17 0 0
  pub eighteen : reported (Err answer.WrongKeyState) ≡ reporting 18 0 0
  pub nineteen : reported (Err answer.WrongDesk) ≡ reporting 19 0 0

-- ---- the first rule that is broken

-- rules in their order, each with the answer to a call that breaks it and what it asks
pub data Rules : Type 1 where
  rule : Refusal → Type 0 → Rules → Rules
  no_more : Rules

abbrev pub report_of : Left → Reported
report_of x = reporting x.answer x.length x.stores

-- what they have a call report: a rule that is broken gives its answer, and behind one that is kept the next decides; where all are kept,
-- it is done
unfoldable pub Gives : Rules → Reported → Type 0
Gives (rule refusal kept behind) report = ((kept → ⊥) × (report ≡ reported (Err refusal))) ⊎ (kept × Gives behind report)
Gives no_more report = report ≡ reported (Ok (record { length = report.length; stores = report.stores }))

-- they give this answer and no other
pub record Exactly (rules : Rules) (report : Reported) : Type 0 where
  pub given : Gives rules report
  pub alone : (other : Reported) → Gives rules other → other.number ≡ report.number

-- ---- the rules

abbrev pub load_rules : List ℕ → Rules
load_rules image = rule answer.BadImage (ImageRules image) no_more

-- in the order 1, 2, 19, 3, 12, 4, 11, 6, 10; `under` the entry that serves the frame, of which a valid image has at most one
abbrev pub securing_rules : List ℕ → List ℕ → Said → ℕ → List ℕ → List ℕ → Rules
securing_rules image numbers said spi frame output =
    let serves : ℕ → Type 0 = Serves image 1 said spi frame in
    let under : (ℕ → Type 0) → Type 0 = λ kept. (e : ℕ) → serves e → kept e in
    let size : ℕ → ℕ = λ e. length frame + security_size (service_at image e) + 16 in
    rule answer.BadImage (ImageRules image)
    (rule answer.BadMarks (Agreeing image numbers)
    (rule answer.WrongDesk (said.desk ≤ 2)
    (rule answer.BadFrame (FrameRules said frame 1)
    (rule answer.WrongCheckField (RightField said frame)
    (rule answer.NoEntry ((e : ℕ) × serves e)
    (rule answer.TooLong (under (λ e. size e ≤ (form_said said).largest))
    (rule answer.NoRoom (under (λ e. size e ≤ length output))
    (rule answer.NumbersSpent (under (λ e. last_at numbers e < 4294967295))
    no_more))))))))

-- in the order 1, 2, 19, 3, 12, 4, 5, 6, 7, 8; the last is also for an IV that begins as no IV of the entry does
abbrev pub checking_rules : List ℕ → List ℕ → Said → List ℕ → List ℕ → Rules
checking_rules image numbers said frame output =
    let spi : ℕ = spi_on said frame in
    let serves : ℕ → Type 0 = Serves image 2 said spi frame in
    let under : (ℕ → Type 0) → Type 0 = λ kept. (e : ℕ) → serves e → kept e in
    let least : ℕ → ℕ = λ e. header_size said frame + security_size (service_at image e) + 1 + 16 + trailer_size said frame in
    let text : ℕ → List ℕ = λ e. text_on (service_at image e) said frame in
    let number : ℕ → ℕ = λ e. number_on (shape_in image) (service_at image e) said frame in
    let right : ℕ → List ℕ = λ e. right_mac (service_at image e) said (mask_at image e) (key_octets_at image e) frame in
    rule answer.BadImage (ImageRules image)
    (rule answer.BadMarks (Agreeing image numbers)
    (rule answer.WrongDesk (said.desk ≤ 2)
    (rule answer.BadFrame (FrameRules said frame 2)
    (rule answer.WrongCheckField (RightField said frame)
    (rule answer.NoEntry ((e : ℕ) × serves e)
    (rule answer.TooShort (under (λ e. least e ≤ length frame))
    (rule answer.NoRoom (under (λ e. length (text e) ≤ length output))
    (rule answer.WrongMac (under (λ e. right e ≡ mac_on said frame))
    (rule answer.OutsideWindow (under (λ e. Opens (shape_in image) (service_at image e) said spi frame × InWindow (last_at numbers e) (window_at image e) (number e)))
    no_more)))))))))

pub record Answering : Type 0 where
  pub table : Table
  pub loading : (image numbers : List ℕ) → Octets image → Exactly (load_rules image) (report_of (loaded image numbers))
  pub sending : (image numbers : List ℕ) (said : Said) (spi : ℕ) (frame output : List ℕ) → Octets image
      → Exactly (securing_rules image numbers said spi frame output) (report_of (secured image numbers said spi frame output))
  pub checking : (image numbers : List ℕ) (said : Said) (frame output : List ℕ) → Octets image
      → Exactly (checking_rules image numbers said frame output) (report_of (checked image numbers said frame output))
