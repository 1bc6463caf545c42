-- A name for each layer whose definitions are to compute: a proof that unfolds the name opens them all. The ciphers stay shut.
-- Assumes nothing.
use lib.Count.{count_trailing_zeros}
use Rattle.octets.specs.Lists.{tab, part, all}
use Rattle.octets.specs.Numbers.{number, bytes}
use Rattle.octets.specs.Same.{same}
use Rattle.headers.specs.Telecommand.{tc_with_length}
use Rattle.check_field.specs.CheckField.{check_field_of, check_field, with_field, right_field}
use Rattle.check_field.specs.Polynomials.{remainder}
use Rattle.kinds.specs.Kinds.{named}
use Rattle.frame.specs.Closing.{control_of, closed, field_ok}
use Rattle.frame.specs.Parts.{header_of, clear_content, security_of, secured_content}
use Rattle.frame.specs.Rules.{obeys}
use Rattle.association.specs.Association.{naming_of, association_of, held, matching}
use Rattle.bodies.specs.Body.{body_in, body_ok}
use Rattle.marks.specs.Gray.{decoded}
use Rattle.bodies.specs.Layout.{layout_of}
use Rattle.keys.specs.Keys.{key_from, key_index, key_in_state, key_under, key_ok, key_part_ok}
use Rattle.image.specs.Image.{body_at, body_of, mark_at, mark_in, part_at, key_count, key_of, image_size, laid_out, entry_ok, keys_ok, valid_image}
use Rattle.numbers.specs.Numbers.{loaded_numbers, agrees}
use Rattle.association.specs.Search.{body_serves, has_spi, matches, first_from, entry_for}
use Rattle.marks.specs.Stores.{steps, stored}
use Rattle.numbers.specs.Stores.{plan_for, after_stores}
use Rattle.judging.specs.Answers.{first}
use Rattle.judging.specs.Wants.{wanted}
use Rattle.link.specs.Calls.{loaded, securing_reply, secured, secured_cut, checking_reply, checked_as, checked_cut_as}
use Rattle.protection.specs.Protection.{secured_frame, field_in, text_in, number_in, clear_length}
use Rattle.judging.specs.Replies.{seen, securing_tests, securing, checking_tests, checking}
use Rattle.services.specs.SecurityHeader.{number_under}
use Rattle.services.specs.Services.{service}
use Rattle.promises.specs.Forms.{form_of}
use Rattle.promises.specs.Images as words
use Rattle.promises.specs.Versions.{shape_of}
use Rattle.promises.specs.Cases.{image_with, secured_c, clear_tc, room}
use Rattle.promises.specs.KeyedCases as keyed

unfoldable pub octets : Unit {0}
unfolding count_trailing_zeros tab part all number bytes same
octets = tt

unfoldable pub frames : Unit {0}
unfolding named tc_with_length header_of clear_content security_of secured_content obeys
frames = tt

-- the check field, where a frame is short enough for it
unfoldable pub closings : Unit {0}
unfolding remainder check_field_of check_field with_field right_field control_of closed field_ok
closings = tt

-- in the promises' words
unfoldable pub forms : Unit {0}
unfolding form_of shape_of words.key_from
forms = tt

unfoldable pub images : Unit {0}
unfolding layout_of body_in body_ok decoded body_at body_of mark_at mark_in key_of image_size laid_out entry_ok valid_image loaded_numbers agrees
images = tt

-- a key part
unfoldable pub key_parts : Unit {0}
unfolding key_from key_index key_in_state key_under key_ok key_part_ok part_at key_count keys_ok
key_parts = tt

unfoldable pub associations : Unit {0}
unfolding naming_of association_of held matching body_serves has_spi matches first_from entry_for plan_for steps stored after_stores
associations = tt

unfoldable pub replies : Unit {0}
unfolding service number_under secured_frame field_in text_in number_in clear_length first seen securing_tests securing checking_tests checking
replies = tt

unfoldable pub calls : Unit {0}
unfolding wanted loaded securing_reply secured secured_cut checking_reply checked_as checked_cut_as
calls = tt

-- what the cases speak of
unfoldable pub examples : Unit {0}
unfolding image_with secured_c clear_tc room keyed.keyed_body keyed.key_of keyed.keyed_image keyed.shared_image keyed.secured_with
examples = tt

unfoldable pub everything : Unit {0}
unfolding octets frames closings forms images key_parts associations replies calls examples
everything = tt
