-- The words of audit's lines and of compose's: for the reasons of document 01 and the writer's, the commands and what they use, and the system's errors.
use Rattle.std.specs.Prelude.{ℕ, List, [], ◌∷◌, get_or}
use Prim.Native.String.{String}
use Rattle.rules.specs.declared.Within.{Within}
use Rattle.rules.specs.declared.Within.TheVariants.{BatchOnly, ScratchOnly, AnyWindow}
use Rattle.rules.specs.Printout.{bytes}

-- the words of a table by their number; a number that it does not have has no words
unfoldable pub words_in : List String → ℕ → List ℕ
words_in table i = bytes (get_or table i "")

-- the numbers from 0 on; 0 is no reason
unfoldable pub reason_table : List String
reason_table =
    ""
    ∷ "the batch is empty, or a window has over 4,096 dwords"
    ∷ "a window's address is not a multiple of 4,096"
    ∷ "a window ends above 2^48"
    ∷ "two windows share a byte"
    ∷ "65,536 commands did not end the run"
    ∷ "the run has not ended there"
    ∷ "no known command starts with this dword"
    ∷ "the command cannot have this length"
    ∷ "the command goes past the end of the batch"
    ∷ "a bit is set that is not allowed"
    ∷ "a second-level batch starts a batch"
    ∷ "a value is not allowed"
    ∷ "an address range does not fit"
    ∷ "the base of this pointer was never set"
    ∷ "the structure lies in neither the batch nor the state window"
    ∷ "a structure has a bit set that is not allowed"
    ∷ "a value in a structure is not allowed"
    ∷ "the run has not ended after 4,096 commands"
    ∷ "the file is shorter than its trailer or longer than any capture"
    ∷ "the length of the file and its trailer do not agree"
    ∷ "a lent buffer is too short"
    ∷ []

abbrev pub reason_words : ℕ → List ℕ
reason_words reason = words_in reason_table reason

-- the numbers of the writer, from 0 on, as they are said of a line that compose reads; most are none of its numbers
unfoldable pub writing_table : List String
writing_table =
    "" ∷ "" ∷ "" ∷ "" ∷ "" ∷ "" ∷ ""
    ∷ "the table has no such row"
    ∷ "the row has no command with so many dwords (row 4: by bit 21)"
    ∷ ""
    ∷ "a bit of FREE or of a dword is set that is not allowed"
    ∷ "" ∷ "" ∷ "" ∷ "" ∷ "" ∷ "" ∷ "" ∷ "" ∷ "" ∷ "" ∷ ""
    ∷ "there is no room for it in the 4,096 dwords"
    ∷ []

abbrev pub writing_words : ℕ → List ℕ
writing_words reason = words_in writing_table reason

-- the commands of document 01's table, and of request 1, by row
unfoldable pub command_table : List String
command_table =
    "MI_NOOP"
    ∷ "MI_BATCH_BUFFER_END"
    ∷ "MI_BATCH_BUFFER_START"
    ∷ "MI_LOAD_REGISTER_IMM"
    ∷ "MI_STORE_DATA_IMM"
    ∷ "MI_STORE_REGISTER_MEM"
    ∷ "MI_LOAD_REGISTER_MEM"
    ∷ "PIPE_CONTROL"
    ∷ "PIPELINE_SELECT"
    ∷ "STATE_BASE_ADDRESS"
    ∷ "3DSTATE_VERTEX_BUFFERS"
    ∷ "3DSTATE_VERTEX_ELEMENTS"
    ∷ "3DSTATE_INDEX_BUFFER"
    ∷ "3DSTATE_VF_TOPOLOGY"
    ∷ "3DSTATE_VIEWPORT_STATE_POINTERS_CC"
    ∷ "3DSTATE_CC_STATE_POINTERS"
    ∷ "3DPRIMITIVE"
    ∷ "3DSTATE_BLEND_STATE_POINTERS"
    ∷ []

abbrev pub command_words : ℕ → List ℕ
command_words row = words_in command_table row

-- what the command of a row does with its address, by row; most have none
unfoldable pub access_table : List String
access_table =
    "" ∷ "" ∷ "jump to"
    ∷ "" ∷ "store to" ∷ "store to" ∷ "load from"
    ∷ "store to" ∷ "" ∷ ""
    ∷ "vertex buffer of" ∷ "" ∷ "index buffer of"
    ∷ "" ∷ "" ∷ "" ∷ "" ∷ "" ∷ []

abbrev pub access_words : ℕ → List ℕ
access_words row = words_in access_table row

-- where an address range should lie
unfoldable pub within_words : Within → List ℕ
within_words BatchOnly = bytes "the batch"
within_words ScratchOnly = bytes "scratch"
within_words AnyWindow = bytes "one window"

-- the system's errors from 0 on, which is none, to 40, in its own words
unfoldable pub error_table : List String
error_table =
    "no reason is known"
    ∷ "Operation not permitted"
    ∷ "No such file or directory"
    ∷ "No such process"
    ∷ "Interrupted system call"
    ∷ "Input/output error"
    ∷ "No such device or address"
    ∷ "Argument list too long"
    ∷ "Exec format error"
    ∷ "Bad file descriptor"
    ∷ "No child processes"
    ∷ "Resource temporarily unavailable"
    ∷ "Cannot allocate memory"
    ∷ "Permission denied"
    ∷ "Bad address"
    ∷ "Block device required"
    ∷ "Device or resource busy"
    ∷ "File exists"
    ∷ "Invalid cross-device link"
    ∷ "No such device"
    ∷ "Not a directory"
    ∷ "Is a directory"
    ∷ "Invalid argument"
    ∷ "Too many open files in system"
    ∷ "Too many open files"
    ∷ "Inappropriate ioctl for device"
    ∷ "Text file busy"
    ∷ "File too large"
    ∷ "No space left on device"
    ∷ "Illegal seek"
    ∷ "Read-only file system"
    ∷ "Too many links"
    ∷ "Broken pipe"
    ∷ "Numerical argument out of domain"
    ∷ "Numerical result out of range"
    ∷ "Resource deadlock avoided"
    ∷ "File name too long"
    ∷ "No locks available"
    ∷ "Function not implemented"
    ∷ "Directory not empty"
    ∷ "Too many levels of symbolic links"
    ∷ []

abbrev pub error_words : ℕ → List ℕ
error_words error = words_in error_table error
