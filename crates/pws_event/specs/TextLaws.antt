-- What joins the texts of events and the reading of them; this project's own.
use Rattle.std.specs.Prelude.{◌≡◌, ℕ, ◌<◌, List, slice_index, Ok}
use Rattle.pws_event.specs.Events.{event_text, IsEvent}
use Rattle.pws_event.specs.EventFields.{event_of}
use Rattle.pws_event.specs.declared.events.Event.{Event}

-- an event whose fields are in range is what reading its text gives
abbrev pub TextsReadBack : Type 0
TextsReadBack = (e : Event) → IsEvent e → event_of (event_text e) ≡ Ok e

-- what reading bytes gives has its fields in range, and these bytes are its text
abbrev pub TextsWriteBack : Type 0
TextsWriteBack = (text : List ℕ) (e : Event) → ((i : ℕ) → slice_index text i < 256) → event_of text ≡ Ok e → IsEvent e × (event_text e ≡ text)

-- two events whose fields are in range have two texts
abbrev pub TextsDiffer : Type 0
TextsDiffer = (e f : Event) → IsEvent e → IsEvent f → event_text e ≡ event_text f → e ≡ f
