-- What a register holds, by kind; this project's own rules.
use Rattle.std.specs.Prelude.{ℕ, ◌==◌, ◌&&◌, Bool, true, false, List, decimal, Option, Some, None}
use Rattle.std.specs.Str.{bytes_eq}
use Rattle.pws_service.specs.declared.keys.Key.{Key}
use Rattle.pws_service.specs.Keys.{same_key}
use Rattle.pws_driver.specs.declared.values.Value.{Value}
use Rattle.pws_driver.specs.declared.values.Value.TheVariants as value

abbrev pub number_of : Value → Option ℕ
number_of (value.Number n) = Some n
number_of (value.Text t) = None
number_of (value.Call k) = None
number_of (value.Request k m) = None
number_of (value.Message m) = None

abbrev pub text_of : Value → Option (List ℕ)
text_of (value.Text t) = Some t
text_of (value.Number n) = None
text_of (value.Call k) = None
text_of (value.Request k m) = None
text_of (value.Message m) = None

-- a text, or the digits of a number
abbrev pub digits_or_text_of : Value → Option (List ℕ)
digits_or_text_of (value.Text t) = Some t
digits_or_text_of (value.Number n) = Some (decimal n)
digits_or_text_of (value.Call k) = None
digits_or_text_of (value.Request k m) = None
digits_or_text_of (value.Message m) = None

abbrev pub call_of : Value → Option Key
call_of (value.Call k) = Some k
call_of (value.Number n) = None
call_of (value.Text t) = None
call_of (value.Request k m) = None
call_of (value.Message m) = None

-- a request with its message
abbrev pub request_of : Value → Option (Key × List ℕ)
request_of (value.Request k m) = Some (k, m)
request_of (value.Number n) = None
request_of (value.Text t) = None
request_of (value.Call k) = None
request_of (value.Message m) = None

abbrev pub message_of : Value → Option (List ℕ)
message_of (value.Message m) = Some m
message_of (value.Number n) = None
message_of (value.Text t) = None
message_of (value.Call k) = None
message_of (value.Request k m) = None

abbrev pub same_number : ℕ → Value → Bool
same_number n (value.Number m) = n == m
same_number n (value.Text t) = false
same_number n (value.Call k) = false
same_number n (value.Request k m) = false
same_number n (value.Message m) = false

abbrev pub same_text : List ℕ → Value → Bool
same_text t (value.Text u) = bytes_eq t u
same_text t (value.Number n) = false
same_text t (value.Call k) = false
same_text t (value.Request k m) = false
same_text t (value.Message m) = false

abbrev pub same_call : Key → Value → Bool
same_call k (value.Call j) = same_key k j
same_call k (value.Number n) = false
same_call k (value.Text t) = false
same_call k (value.Request j m) = false
same_call k (value.Message m) = false

abbrev pub same_request : Key → Value → Bool
same_request k (value.Request j m) = same_key k j
same_request k (value.Number n) = false
same_request k (value.Text t) = false
same_request k (value.Call j) = false
same_request k (value.Message m) = false

abbrev pub same_message : (List ℕ → List ℕ → Bool) → List ℕ → Value → Bool
same_message same m (value.Message n) = same m n
same_message same m (value.Number n) = false
same_message same m (value.Text t) = false
same_message same m (value.Call k) = false
same_message same m (value.Request k n) = false

-- whether both are of one kind and equal; messages by this test
abbrev pub same_value : (List ℕ → List ℕ → Bool) → Value → Value → Bool
same_value same (value.Number n) v = same_number n v
same_value same (value.Text t) v = same_text t v
same_value same (value.Call k) v = same_call k v
same_value same (value.Request k m) v = same_request k v
same_value same (value.Message m) v = same_message same m v
