-- Document 02, requests 5 and 9: the procedures that a command may call, a record each. Everything that the paper says of one stands in its
-- record: its tag and the length of its value are refusal 13, the states in which it may come 15, the values that it allows 16, the key that
-- it names 17, and the state of that key 18.
-- Assumes nothing.
use Rattle.std.specs.Prelude.{ℕ, ◌+◌, ◌-◌, ◌%◌, Bool, true, false, cond, not, ◌&&◌, ◌||◌, List, [], ◌∷◌, ◌++◌, eqb, leb, length, Option, Some, None}
use Rattle.octets.specs.Lists.{octet}
use Rattle.octets.specs.Numbers.{bytes}
use Rattle.marks.specs.declared.plans.Store.{Store}
use Rattle.bodies.specs.Body.{state_of, window_of, unkeyed, keyed, operational, window_fits}
use Rattle.bodies.specs.Layout.{state_place, window_place, layout_of}
use Rattle.keys.specs.Keys.{pre_active, active, deactivated, key_state_place}
use Rattle.image.specs.Image.{layout, body_at, body_of, part_at, key_count, key_with, key_in, key_id_in}
use Rattle.named_keys.specs.NamedKeys.{has_key, key_there, key_active, freed}
use Rattle.inventory.specs.Inventory.{inventory}
use Rattle.numbers.specs.Numbers.{accepts}
use Rattle.numbers.specs.Stores.{stores_for}
use Rattle.command_form.specs.Channels.{channels_right}
use Rattle.command_form.specs.Form.{tag_of, value_of, measured, spi_length, spi_named, window_length, window_asked, key_id_length, key_asked, key_named}
use Rattle.command_form.specs.Form.{first_named, last_named, channel_length, number_length, number_asked, number_behind_key, reply_to}
use Rattle.procedures.specs.declared.procedure.Procedure as code
use Rattle.procedures.specs.declared.procedure.Procedure.TheVariants as procedure

pub record Procedure : Type 0 where
  pub tag : ℕ
  -- the lengths that the value may have
  pub sized : ℕ → Bool
  -- whether it names an association, by the SPI that its value starts with
  pub names : Bool
  -- the states in which it may come
  pub asks : ℕ → Bool
  -- from the image's version, the body, the last number and the value, whether it may be carried out
  pub allows : ℕ → List ℕ → ℕ → List ℕ → Bool
  -- from the image, the entry and the value, whether the key that it names is there, and whether that key is in the right state
  pub knows : List ℕ → ℕ → List ℕ → Bool
  pub ready : List ℕ → ℕ → List ℕ → Bool
  -- from the last number and the value, the managed number once all stores are made
  pub number : ℕ → List ℕ → ℕ
  -- from the image, the entry, that number and the value, the octet stores in their order
  pub stores : List ℕ → ℕ → ℕ → List ℕ → List Store
  -- from the image, the entry, the last number and the value, every octet of the reply; none for no reply
  pub reply : List ℕ → ℕ → ℕ → List ℕ → List ℕ

-- ---- what several have in common

abbrev exactly : ℕ → ℕ → Bool
exactly size n = eqb n size

abbrev any_state : ℕ → Bool
any_state state = true

abbrev any_value : ℕ → List ℕ → ℕ → List ℕ → Bool
any_value version body last value = true

abbrev no_key : List ℕ → ℕ → List ℕ → Bool
no_key image e value = true

abbrev as_before : ℕ → List ℕ → ℕ
as_before last value = last

abbrev no_stores : List ℕ → ℕ → ℕ → List ℕ → List Store
no_stores image e n value = []

abbrev no_reply : List ℕ → ℕ → ℕ → List ℕ → List ℕ
no_reply image e last value = []

-- one octet of the body of entry e
abbrev pub octet_in : List ℕ → ℕ → ℕ → ℕ → Store
octet_in image e place value = record { at = body_at image e + place; value = value }

-- ---- keys

-- the octet of the state of a key
abbrev pub key_state_in : List ℕ → ℕ → ℕ → Store
key_state_in image id state = record { at = key_state_place (part_at image) (key_with image id); value = state }

-- from one state of a key to another: one store
abbrev turning : ℕ → (List ℕ → ℕ → Bool) → ℕ → Procedure
turning tag ready to =
    record {
      tag = tag;
      sized = exactly key_id_length;
      names = false;
      asks = any_state;
      allows = any_value;
      knows = λ image e value. has_key image (key_named value);
      ready = λ image e value. ready image (key_named value);
      number = as_before;
      stores = λ image e n value. key_state_in image (key_named value) to ∷ [];
      reply = no_reply;
    }

-- ---- what several have in common, of states and of questions

-- from one state to another: one store
abbrev moving : ℕ → (ℕ → Bool) → ℕ → ℕ → (ℕ → List ℕ → ℕ → List ℕ → Bool) → Procedure
moving tag sized from to allows =
    record {
      tag = tag;
      sized = sized;
      names = true;
      asks = eqb from;
      allows = allows;
      knows = no_key;
      ready = no_key;
      number = as_before;
      stores = λ image e n value. octet_in image e state_place to ∷ [];
      reply = no_reply;
    }

-- a question: nothing is stored, and the reply tells a value
abbrev asking : ℕ → ℕ → Bool → (List ℕ → ℕ → ℕ → List ℕ → List ℕ) → Procedure
asking tag size names told =
    record {
      tag = tag;
      sized = exactly size;
      names = names;
      asks = any_state;
      allows = any_value;
      knows = no_key;
      ready = no_key;
      number = as_before;
      stores = no_stores;
      reply = λ image e last value. reply_to tag (told image e last value);
    }

-- ---- the states: unkeyed, keyed, operational

-- SPI, then one or more channels. Each is one of the body's, the window is one with which an association may serve, and its key is active
abbrev pub start : Procedure
start =
    record {
      tag = 0x1B;
      sized = λ n. leb (spi_length + channel_length) n && eqb ((n - spi_length) % channel_length) 0;
      names = true;
      asks = eqb keyed;
      allows = λ version body last value. channels_right version body value && window_fits (window_of body);
      knows = λ image e value. key_there image (key_id_in image e);
      ready = λ image e value. key_active image (key_id_in image e);
      number = as_before;
      stores = λ image e n value. octet_in image e state_place operational ∷ [];
      reply = no_reply;
    }

abbrev pub stop : Procedure
stop = moving 0x1E (exactly spi_length) operational keyed any_value

-- SPI, key ID, number: it keeps the mark, so the number is 0, and in a version without a key part the key, so the ID is 0. With one it stores
-- the ID, and the state last: until then the body is unkeyed, and may name any ID
abbrev pub rekey : Procedure
rekey =
    record {
      tag = 0x16;
      sized = exactly (spi_length + key_id_length + number_length);
      names = true;
      asks = eqb unkeyed;
      allows = λ version body last value. ((layout_of version).keys || eqb (key_asked value) 0) && eqb (number_behind_key value) 0;
      knows = λ image e value. key_there image (key_asked value);
      ready = λ image e value. key_active image (key_asked value);
      number = as_before;
      stores = λ image e n value.
          cond (layout image).keys
          (octet_in image e (layout image).key (octet value spi_length)
          ∷ octet_in image e ((layout image).key + 1) (octet value (spi_length + 1))
          ∷ octet_in image e state_place keyed
          ∷ [])
          (octet_in image e state_place keyed ∷ []);
      reply = no_reply;
    }

abbrev pub expire : Procedure
expire = moving 0x19 (exactly spi_length) keyed unkeyed any_value

-- ---- the number and the window

-- the most by which a number may be set higher
abbrev pub most_rise : ℕ
most_rise = 1024

-- SPI, number: it only rises, with the marks one at a time first
abbrev pub set_number : Procedure
set_number =
    record {
      tag = 0x1A;
      sized = exactly (spi_length + number_length);
      names = true;
      asks = any_state;
      allows = λ version body last value. accepts last most_rise (number_asked value);
      knows = no_key;
      ready = no_key;
      number = λ last value. number_asked value;
      stores = λ image e n value. stores_for image e n;
      reply = no_reply;
    }

-- SPI, window: its high octet, then its low one. A cut between the two leaves any window, and the body, which is not operational, may have
-- any: the image stays valid
abbrev pub set_window : Procedure
set_window =
    record {
      tag = 0x15;
      sized = exactly (spi_length + window_length);
      names = true;
      asks = λ state. not (eqb state operational);
      allows = λ version body last value. window_fits (window_asked value);
      knows = no_key;
      ready = no_key;
      number = as_before;
      stores = λ image e n value.
          octet_in image e window_place (octet value spi_length) ∷ octet_in image e (window_place + 1) (octet value (spi_length + 1)) ∷ [];
      reply = no_reply;
    }

-- ---- the state of a key: pre-active, active, deactivated

-- key ID: one that is pre-active
abbrev pub activation : Procedure
activation = turning 0x02 (λ image id. key_in image pre_active id) active

-- key ID: one that is active, and that no operational body names. So each operational body still names an active key
abbrev pub deactivation : Procedure
deactivation = turning 0x03 freed deactivated

-- ---- questions

-- SPI; the reply is SPI and state
abbrev pub status : Procedure
status = asking 0x1F spi_length true (λ image e last value. bytes spi_length (spi_named value) ++ (state_of (body_of image e) ∷ []))

-- SPI; the reply is SPI and number
abbrev pub read_number : Procedure
read_number = asking 0x10 spi_length true (λ image e last value. bytes spi_length (spi_named value) ++ bytes number_length last)

-- nothing; the reply is empty
abbrev pub ping : Procedure
ping = asking 0x31 0 false (λ image e last value. [])

-- first key ID, last key ID; the reply is the inventory of the keys from the one to the other. An image without a key part has none
abbrev pub key_inventory : Procedure
key_inventory =
    asking 0x07 (key_id_length + key_id_length) false
    (λ image e last value. inventory image (part_at image) (key_count image) (first_named value) (last_named value))

-- ---- no procedure: no length is right

abbrev pub no_procedure : Procedure
no_procedure =
    record {
      tag = 0;
      sized = λ n. false;
      names = false;
      asks = any_state;
      allows = any_value;
      knows = no_key;
      ready = no_key;
      number = as_before;
      stores = no_stores;
      reply = no_reply;
    }

-- ---- the procedure that a command calls

-- what the paper says of each procedure of the code
abbrev pub procedure_is : code.Procedure → Procedure
procedure_is procedure.Start = start
procedure_is procedure.Stop = stop
procedure_is procedure.Rekey = rekey
procedure_is procedure.Expire = expire
procedure_is procedure.SetNumber = set_number
procedure_is procedure.SetWindow = set_window
procedure_is procedure.Status = status
procedure_is procedure.ReadNumber = read_number
procedure_is procedure.Ping = ping
procedure_is procedure.Activation = activation
procedure_is procedure.Deactivation = deactivation
procedure_is procedure.Inventory = key_inventory

abbrev pub procedures : List code.Procedure
procedures =
    procedure.Start
    ∷ procedure.Stop
    ∷ procedure.Rekey
    ∷ procedure.Expire
    ∷ procedure.SetNumber
    ∷ procedure.SetWindow
    ∷ procedure.Status
    ∷ procedure.ReadNumber
    ∷ procedure.Ping
    ∷ procedure.Activation
    ∷ procedure.Deactivation
    ∷ procedure.Inventory
    ∷ []

-- request 10: the key commands, which the key office alone gives. The tag tells them, whatever their length
abbrev pub key_command : ℕ → Bool
key_command tag = eqb tag activation.tag || eqb tag deactivation.tag || eqb tag key_inventory.tag

-- the one of a list that has a tag
unfoldable pub with_tag : ℕ → List code.Procedure → Option code.Procedure
with_tag tag [] = None
with_tag tag (p ∷ ps) = cond (eqb tag (procedure_is p).tag) (Some p) (with_tag tag ps)

abbrev pub procedure_behind : Option code.Procedure → Procedure
procedure_behind (Some p) = procedure_is p
procedure_behind None = no_procedure

-- refusal 13: by its tag, where its length is right; else it calls none
abbrev pub sized_for : Option code.Procedure → ℕ → Bool
sized_for called n = (procedure_behind called).sized n

unfoldable pub called : List ℕ → Option code.Procedure
called command =
    let x = with_tag (tag_of command) procedures in
    cond (measured command && sized_for x (length (value_of command))) x None

abbrev pub procedure_of : List ℕ → Procedure
procedure_of command = procedure_behind (called command)
