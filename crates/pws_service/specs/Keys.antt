-- Calls between two groups by their keys; this project's own.
use Rattle.std.specs.Prelude.{◌==◌, ◌&&◌, Bool}
use Rattle.pws_event.specs.Requests.{RequestFields}
use Rattle.pws_event.specs.Answers.{ReplyFields, AbortFields}
use Rattle.pws_service.specs.declared.keys.Key.{Key}

-- whether both are one call
abbrev pub same_key : Key → Key → Bool
same_key a b = a.group == b.group && a.number == b.number

-- the key of a request has the caller, that of an answer the called group
abbrev pub request_key : RequestFields → Key
request_key r = record { group = r.caller; number = r.number }

abbrev pub reply_key : ReplyFields → Key
reply_key r = record { group = r.called; number = r.number }

abbrev pub abort_key : AbortFields → Key
abort_key a = record { group = a.called; number = a.number }
