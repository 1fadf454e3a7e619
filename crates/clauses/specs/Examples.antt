-- What is said of a size and of an error of the system, shown by computation.
use Rattle.std.specs.Prelude.{◌≡◌, refl}
use Rattle.rules.specs.Printout.{digits_of, bytes}
use Rattle.phrases.specs.Words.{words_in, error_table}
use Rattle.clauses.specs.declared.Unread.TheVariants.{Other}
use Rattle.clauses.specs.declared.Detail.TheVariants.{HasBytes, HasTooMany}
use Rattle.clauses.specs.Clauses.{size_text, detail_text, error_text, unread_words}

-- number 19, by the file's size
pub a_line_of_an_empty_file : detail_text (HasBytes 0) ≡ bytes ": it is empty"
unfolding size_text detail_text
a_line_of_an_empty_file = refl

pub a_line_of_a_pipe : detail_text HasTooMany ≡ bytes ": it has over 32,808 bytes"
unfolding detail_text
a_line_of_a_pipe = refl

-- an error that the table has words for, and one by its number
pub an_error_with_words : unread_words (Other 5) ≡ bytes "it cannot be read: Input/output error"
unfolding unread_words error_text words_in error_table
an_error_with_words = refl

pub an_error_by_number : unread_words (Other 117) ≡ bytes "it cannot be read: error 117"
unfolding digits_of unread_words error_text
an_error_by_number = refl
