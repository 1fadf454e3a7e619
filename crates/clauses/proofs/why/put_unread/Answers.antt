-- `put_unread` meets its contract, by why the file was not read.
use Rattle.std.proofs.Common.{rules}
use Rattle.lines.proofs.Putting.{at_most}
use Rattle.clauses.specs.Clauses.{unread_words}
use Rattle.clauses.proofs.why.put_unread.Goals as goal

pub returns-in-NoSuchFile : goal.returns-in-NoSuchFile
unfolding unread_words
returns-in-NoSuchFile c = rw c.in-NoSuchFile.is (at_most (search rules) c.put_text.ensures)

pub returns-in-NotAllowed : goal.returns-in-NotAllowed
unfolding unread_words
returns-in-NotAllowed c = rw c.in-NotAllowed.is (at_most (search rules) c.put_text-in-NotAllowed.ensures)

pub returns-in-Folder : goal.returns-in-Folder
unfolding unread_words
returns-in-Folder c = rw c.in-Folder.is (at_most (search rules) c.put_text-in-Folder.ensures)

pub returns-in-NameTooLong : goal.returns-in-NameTooLong
unfolding unread_words
returns-in-NameTooLong c = rw c.in-NameTooLong.is (at_most (search rules) c.put_text-in-NameTooLong.ensures)

pub returns-in-Changed : goal.returns-in-Changed
unfolding unread_words
returns-in-Changed c = rw c.in-Changed.is (at_most (search rules) c.put_text-in-Changed.ensures)

pub returns-in-NoRegularFile : goal.returns-in-NoRegularFile
unfolding unread_words
returns-in-NoRegularFile c = rw c.in-NoRegularFile.is (at_most (search rules) c.put_text-in-NoRegularFile.ensures)

pub returns-in-Other : goal.returns-in-Other
unfolding unread_words
returns-in-Other c = rw c.in-Other.is c.put_error.ensures
