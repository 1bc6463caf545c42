-- Document 02, request 5: a channel that a command names, in four octets. By the kind of the body they are the version of its frames,
-- spacecraft, virtual channel and, of kind 2, MAP, each in as many bits as the kind has for it; they are the last bits of the four octets,
-- and those before them are 0.
-- Assumes nothing.
use Rattle.std.specs.Prelude.{ℕ, ◌+◌, ◌-◌, ◌*◌, ◌/◌, ◌%◌, Bool, false, ◌&&◌, List, eqb, length, Option, Some, None}
use Rattle.octets.specs.Lists.{all}
use Rattle.octets.specs.Numbers.{number_at}
use Rattle.kinds.specs.Kinds.{named}
use Rattle.kinds.specs.declared.kinds.Kind as code
use Rattle.kinds.specs.declared.kinds.Kind.TheVariants as kind
use Rattle.bodies.specs.Body.{kind_in, spacecraft_of, map_of}
use Rattle.association.specs.Search.{serves_channel}
use Rattle.command_form.specs.Form.{spi_length, channel_length}

-- the bits of each field: TC 10, 6 and for the MAP 6; TM 10 and 3; AOS 2, which are 01, 8 and 6
abbrev pub channel_name : code.Kind → ℕ → ℕ → ℕ → ℕ
channel_name kind.Tc spacecraft channel map = spacecraft * 64 + channel
channel_name kind.SegmentedTc spacecraft channel map = (spacecraft * 64 + channel) * 64 + map
channel_name kind.Tm spacecraft channel map = spacecraft * 8 + channel
channel_name kind.Aos spacecraft channel map = (1 * 256 + spacecraft) * 64 + channel

-- the virtual channel in a name
abbrev pub channel_in : code.Kind → ℕ → ℕ
channel_in kind.Tc name = name % 64
channel_in kind.SegmentedTc name = name / 64 % 64
channel_in kind.Tm name = name % 8
channel_in kind.Aos name = name % 64

-- whether a body serves the channel that a name is of, and the whole name is that of this channel
abbrev pub names_one : ℕ → Option code.Kind → List ℕ → ℕ → Bool
names_one version (Some k) body name =
    serves_channel version body (channel_in k name)
    && eqb name (channel_name k (spacecraft_of body) (channel_in k name) (map_of body))
names_one version None body name = false

-- the channels behind the SPI, and whether each of them is the body's
abbrev pub channel_count : List ℕ → ℕ
channel_count value = (length value - spi_length) / channel_length

abbrev pub channel_named : List ℕ → ℕ → ℕ
channel_named value i = number_at (spi_length + channel_length * i) channel_length value

unfoldable pub channels_right : ℕ → List ℕ → List ℕ → Bool
channels_right version body value = all (channel_count value) (λ i. names_one version (named (kind_in body)) body (channel_named value i))
